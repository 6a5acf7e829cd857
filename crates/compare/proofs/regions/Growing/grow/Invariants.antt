use Rattle.std.proofs.Common.{◌≡◌, ◌-◌, ◌≤◌, length, Some}
use Rattle.compare.specs.Growing.{so_far, Grows}
use Rattle.compare.specs.Regions.{grown}
use Rattle.compare.proofs.regions.Growing.grow.Given as goal

-- the list so far, from which the turns that are left give the whole list
abbrev pub invariant-loop-place : goal.invariant-loop-place
invariant-loop-place g l =
    let m = g.R.Family in
    let old = l.fn.self in
    (l.place ≤ l.self.count)
    × Grows old (so_far l.self) (Some tt) l.self
    × (grown m.inside m.meet (length old.places.now - l.place) l.place (so_far l.self) ≡ grown m.inside m.meet (length old.places.now) 0 (so_far old))

abbrev pub decreases-loop-place : goal.decreases-loop-place
decreases-loop-place g l = length l.fn.self.places.now - l.place
