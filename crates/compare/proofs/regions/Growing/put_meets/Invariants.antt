use Rattle.std.proofs.Common.{take, Some}
use Rattle.compare.specs.Growing.{so_far, Grows}
use Rattle.compare.specs.Regions.{put_meets}
use Rattle.compare.proofs.regions.Growing.put_meets.Given as goal

abbrev pub invariant-loop-place : goal.invariant-loop-place
invariant-loop-place g l =
    let m = g.R.Family in
    Grows l.fn.self (put_meets m.inside m.meet l.region (take l.place (take l.before l.fn.self.places.now)) (so_far l.fn.self)) (Some tt) l.self
