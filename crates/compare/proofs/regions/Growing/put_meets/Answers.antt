use Rattle.std.proofs.Common.{◌≡◌, ◌+◌, ◌<◌, length, get_or, take, Some, sym, subst, rules, arith, length-take}
use Rattle.compare.specs.Growing.{so_far, Grows}
use Rattle.compare.specs.Regions.{put_meet, put_meets}
use Rattle.compare.proofs.Extended.{put_meet_extends, put_meets_extends}
use Rattle.compare.proofs.Growth.{read-before}
use Rattle.compare.proofs.Puts.{puts_step, puts_stop}
use Rattle.compare.proofs.regions.Growing.put_meets.Given as given
use Rattle.compare.proofs.regions.Growing.put_meets.Goals as goal
use Rattle.compare.proofs.regions.Growing.put_meets.Goals.{After-put_meet}

-- the region read is among those before, and stands where it stood
within : (g : given.Over) (c : After-put_meet g) → c.loop-place.place < length (take c.args.before c.args.self.now.places.now)
within g c = omega (arith, length-take c.args.before c.args.self.now.places.now, c.requires, c.args.self.now.fits, c.loop-place-test.true)

stood : (g : given.Over) (c : After-put_meet g) → c.index-self-place.result ≡ get_or (take c.args.before c.args.self.now.places.now) c.loop-place.place c.index-self-place.result
stood g c =
    let m = g.R.Family in
    let old = c.args.self.now in
    let grows = put_meets_extends m.inside m.meet c.args.region (take c.loop-place.place (take c.args.before old.places.now)) (so_far old) in
    read-before m.inside m.meet old.places.now _ c.loop-place.self.places.now c.loop-place.self.count old.count c.args.before c.loop-place.place _ c.loop-place.invariant.written grows c.loop-place-test.true c.requires old.fits c.index-self-place.is

met : (g : given.Over) (c : After-put_meet g) → Grows c.loop-place.self (put_meet g.R.Family.inside (so_far c.loop-place.self) (g.R.Family.meet c.args.region c.index-self-place.result)) c.put_meet.result c.put_meet.new.self
met g c = subst (λ b. Grows c.loop-place.self (put_meet g.R.Family.inside (so_far c.loop-place.self) (g.R.Family.meet c.args.region b)) c.put_meet.result c.put_meet.new.self) (sym c.index-self-place.is) c.put_meet.ensures

pub returns-in_err-put_meet : goal.returns-in_err-put_meet
returns-in_err-put_meet g c =
    let m = g.R.Family in
    let old = c.args.self.now in
    let at = (goal.at.returns-in_err-put_meet g c).After-put_meet in
    puts_stop (λ xs b. put_meet m.inside xs (m.meet c.args.region b)) (λ xs b. put_meet_extends m.inside xs (m.meet c.args.region b)) (take c.args.before old.places.now) old c.loop-place.self c.put_meet.new.self c.put_meet.result c.loop-place.place c.index-self-place.result (within g at) (stood g at)
    c.from_residual.result (search rules) (search rules) c.loop-place.invariant (met g at)

pub loop-place-preserved : goal.loop-place-preserved
loop-place-preserved g c =
    let m = g.R.Family in
    let old = c.args.self.now in
    let at = (goal.at.loop-place-preserved g c).After-put_meet in
    let told : c.put_meet.result ≡ Some tt = search rules in
    subst (λ o. Grows old (put_meets m.inside m.meet c.args.region (take (c.loop-place.place + 1) (take c.args.before old.places.now)) (so_far old)) o c.put_meet.new.self) told
    (puts_step (λ xs b. put_meet m.inside xs (m.meet c.args.region b)) (λ xs b. put_meet_extends m.inside xs (m.meet c.args.region b)) (take c.args.before old.places.now) old c.loop-place.self c.put_meet.new.self c.put_meet.result c.loop-place.place c.index-self-place.result (within g at) (stood g at) c.loop-place.invariant (met g at))
