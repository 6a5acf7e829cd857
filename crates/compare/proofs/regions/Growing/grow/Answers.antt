use Rattle.std.proofs.Common.{rules}
use Rattle.compare.proofs.Growth.{grown_out, grown_over, grown_on}
use Rattle.compare.proofs.regions.Growing.grow.Goals as goal

pub returns-in_err-put_meets : goal.returns-in_err-put_meets
returns-in_err-put_meets g c =
    let m = g.R.Family in
    let at = c.loop-place in
    grown_over m.inside m.meet c.args.self.now at.self c.put_meets.new.self at.place at.invariant.1 at.invariant.2 c.index-self-place.result c.put_meets.result c.loop-place-test.true c.put_meets.ensures c.from_residual.result (search rules) (search rules)

pub loop-place-preserved : goal.loop-place-preserved
loop-place-preserved g c =
    let m = g.R.Family in
    let at = c.loop-place in
    grown_on m.inside m.meet c.args.self.now at.self c.put_meets.new.self at.place at.invariant.1 at.invariant.2 c.index-self-place.result c.put_meets.result c.loop-place-test.true c.put_meets.ensures (search rules)

pub returns : goal.returns
returns g c =
    let m = g.R.Family in
    let at = c.loop-place in
    grown_out m.inside m.meet c.args.self.now at.self at.self at.place at.invariant.1 at.invariant.2 c.loop-place-test.false
