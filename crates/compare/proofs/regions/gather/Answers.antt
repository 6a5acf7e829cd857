use Rattle.std.proofs.Common.{rules}
use Rattle.compare.proofs.Gathered.{over_whole, over_left, over_right, over_meets, gathered}
use Rattle.compare.proofs.regions.gather.Goals as goal

pub returns-in_err-put : goal.returns-in_err-put
returns-in_err-put g c =
    let m = g.R.Family in
    let first = c.new-list.ensures in
    over_whole m.inside m.meet m.whole c.args.left.now c.args.right.now c.args.regions.now c.new-list.result c.put.new.self c.put.result _ c.whole_region.ensures first.empty first.memory c.put.ensures
    (search rules) (search rules) (search rules)

pub returns-in_err-put_clauses : goal.returns-in_err-put_clauses
returns-in_err-put_clauses g c =
    let m = g.R.Family in
    let first = c.new-list.ensures in
    over_left m.inside m.meet m.whole c.args.left.now c.args.right.now c.args.regions.now c.new-list.result c.put.new.self c.put.result _ c.whole_region.ensures first.empty first.memory c.put.ensures
    c.put_clauses.new.self c.put_clauses.result (search rules) c.put_clauses.ensures
    (search rules) (search rules) (search rules)

pub returns-in_err-put_clauses-2 : goal.returns-in_err-put_clauses-2
returns-in_err-put_clauses-2 g c =
    let m = g.R.Family in
    let first = c.new-list.ensures in
    over_right m.inside m.meet m.whole c.args.left.now c.args.right.now c.args.regions.now c.new-list.result c.put.new.self c.put.result _ c.whole_region.ensures first.empty first.memory c.put.ensures
    c.put_clauses.new.self c.put_clauses.result (search rules) c.put_clauses.ensures
    c.put_clauses-2.new.self c.put_clauses-2.result (search rules) c.put_clauses-2.ensures
    (search rules) (search rules) (search rules)

pub returns-in_err-grow : goal.returns-in_err-grow
returns-in_err-grow g c =
    let m = g.R.Family in
    let first = c.new-list.ensures in
    over_meets m.inside m.meet m.whole c.args.left.now c.args.right.now c.args.regions.now c.new-list.result c.put.new.self c.put.result _ c.whole_region.ensures first.empty first.memory c.put.ensures
    c.put_clauses.new.self c.put_clauses.result (search rules) c.put_clauses.ensures
    c.put_clauses-2.new.self c.put_clauses-2.result (search rules) c.put_clauses-2.ensures
    c.grow.new.self c.grow.result (search rules) c.grow.ensures
    (search rules) (search rules) (search rules)

pub returns : goal.returns
returns g c =
    let m = g.R.Family in
    let first = c.new-list.ensures in
    gathered m.inside m.meet m.whole c.args.left.now c.args.right.now c.args.regions.now c.new-list.result c.put.new.self c.put.result _ c.whole_region.ensures first.empty first.memory c.put.ensures
    c.put_clauses.new.self c.put_clauses.result (search rules) c.put_clauses.ensures
    c.put_clauses-2.new.self c.put_clauses-2.result (search rules) c.put_clauses-2.ensures
    c.grow.new.self c.grow.result (search rules) c.grow.ensures
    (search rules) (search rules)
