use Rattle.std.proofs.Common.{◌≡◌, ◌+◌, take, Some, subst, rules}
use Rattle.compare.specs.Growing.{so_far, Grows}
use Rattle.compare.specs.Regions.{put, put_clauses}
use Rattle.compare.proofs.Extended.{put_extends}
use Rattle.compare.proofs.Puts.{puts_step, puts_stop}
use Rattle.compare.proofs.regions.Growing.put_clauses.Goals as goal

pub returns-in_err-put : goal.returns-in_err-put
returns-in_err-put g c =
    let inside = g.R.Family.inside in
    puts_stop (λ xs x. put inside xs x.region) (λ xs x. put_extends inside xs x.region) c.args.clauses.now c.args.self.now c.loop-clause.self c.put.new.self c.put.result c.loop-clause.clause-index c.clause-item.result c.loop-clause-test.true c.clause-item.is
    c.from_residual.result (search rules) (search rules) c.loop-clause.invariant c.put.ensures

pub loop-clause-preserved : goal.loop-clause-preserved
loop-clause-preserved g c =
    let inside = g.R.Family.inside in
    let told : c.put.result ≡ Some tt = search rules in
    subst (λ o. Grows c.args.self.now (put_clauses inside (take (c.loop-clause.clause-index + 1) c.args.clauses.now) (so_far c.args.self.now)) o c.put.new.self) told
    (puts_step (λ xs x. put inside xs x.region) (λ xs x. put_extends inside xs x.region) c.args.clauses.now c.args.self.now c.loop-clause.self c.put.new.self c.put.result c.loop-clause.clause-index c.clause-item.result c.loop-clause-test.true c.clause-item.is c.loop-clause.invariant c.put.ensures)
