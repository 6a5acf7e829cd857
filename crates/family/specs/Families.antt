-- The laws that every family of regions owes. A region means the set of points that it holds.
use Rattle.std.specs.Prelude.{◌≡◌, ℕ, ◌+◌, ◌<◌, ◌≤◌, Bool, true, ◌&&◌, ◌⊎◌, List, [], ◌∷◌, length, Some, None, Option, ◌≢◌}
use mathlib.Core.List.{Memᴰ}
use Rattle.family.specs.declared.edges.Edge.{Edge}

-- what is done along one axis: nothing, or a shift to an edge of a region
pub data Choice (R : Type 0) : Type 0 where
  still : Choice R
  toward : Edge → R → Choice R

module _ {R P : Type 0} (shifted : P → ℕ → Edge → R → P) where
  -- a point after one choice along an axis
  abbrev pub moved : P → ℕ → Choice R → P
  moved p axis still = p
  moved p axis (toward e r) = shifted p axis e r

  -- a point after one choice for each axis, from the given axis on
  abbrev pub walked : P → ℕ → List (Choice R) → P
  walked p axis [] = p
  walked p axis (c ∷ cs) = walked (moved p axis c) (axis + 1) cs

-- the choice keeps still or names a region of the list
abbrev pub FromList : {R : Type 0} → List R → Choice R → Type 0
FromList rs still = Unit {0}
FromList rs (toward e r) = Memᴰ r rs

abbrev pub AllFrom : {R : Type 0} → List R → List (Choice R) → Type 0
AllFrom rs [] = Unit {0}
AllFrom rs (c ∷ cs) = FromList rs c × AllFrom rs cs

pub record FamilyLaws {R P : Type 0} (whole : R) (first : P) (axes : ℕ) (holds : R → P → Bool) (inside : R → R → Bool) (meet : R → R → Option R) (shifted : P → ℕ → Edge → R → P) : Type 0 where
  -- each region holds a point, and the whole region holds every point
  pub inhabited : (r : R) → (p : P) × (holds r p ≡ true)
  pub everything : (p : P) → holds whole p ≡ true
  -- a region is inside another exactly when the other holds all its points
  pub inside-holds : (a b : R) → inside a b ≡ true → (p : P) → holds a p ≡ true → holds b p ≡ true
  pub holds-inside : (a b : R) → ((p : P) → holds a p ≡ true → holds b p ≡ true) → inside a b ≡ true
  -- regions with the same points are equal
  pub same_points : (a b : R) → ((p : P) → holds a p ≡ holds b p) → a ≡ b
  -- the meet holds exactly the points that both hold, and there is none exactly when no point is in both
  pub meet-holds : (a b m : R) → meet a b ≡ Some m → (p : P) → holds m p ≡ (holds a p && holds b p)
  pub no_meet : (a b : R) → meet a b ≡ None → (p : P) → holds a p ≡ true → holds b p ≢ true
  -- the number of axes, where 5 means more than four
  pub axes_low : 1 ≤ axes
  pub axes_high : axes ≤ 5
  -- a shift along another axis, or where 5 is told, leaves the point
  pub other_axis : (p : P) (axis : ℕ) (e : Edge) (r : R) → (axis ≡ 0) ⊎ ((axes < axis) ⊎ (axes ≡ 5)) → shifted p axis e r ≡ p
  -- with at most four axes, choices from a list lead from the first point to one held by the same regions of the list
  pub reached : axes ≤ 4 → (p : P) (rs : List R) → (cs : List (Choice R)) × (length cs ≡ axes) × AllFrom rs cs × ((r : R) → Memᴰ r rs → holds r (walked shifted first 1 cs) ≡ holds r p)
