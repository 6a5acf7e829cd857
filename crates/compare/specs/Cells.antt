-- A region's holes and its cell: the points of the region outside all its holes. Regions go by their numbers in the list.
use Rattle.std.specs.Prelude.{ℕ, zero, suc, ◌+◌, Bool, false, not, ◌&&◌, ◌||◌, List, [], ◌∷◌, filter, slice_index_or}
use Rattle.std.specs.List.{list_any}
use Rattle.family.specs.declared.edges.Edge.{Edge}
use Rattle.family.specs.declared.edges.Edge.TheVariants.{Near, Far}

-- the region with a number; the whole region stands for a number that none has
abbrev pub region_at : {R : Type 0} → R → List R → ℕ → R
region_at whole xs n = slice_index_or xs n whole

-- the numbers of a list's elements, counted on from i
abbrev pub numbers : {X : Type 0} → ℕ → List X → List ℕ
numbers i [] = []
numbers i (x ∷ xs) = i ∷ numbers (suc i) xs

abbrev pub strictly : {R : Type 0} → (R → R → Bool) → R → R → Bool
strictly inside a b = inside a b && not (inside b a)

module _ {R : Type 0} (inside : R → R → Bool) (at : ℕ → R) where
  -- a numbered region is strictly inside a region, or a region strictly inside a numbered one
  abbrev pub below : R → ℕ → Bool
  below r n = strictly inside (at n) r

  abbrev pub above : R → ℕ → Bool
  above r n = strictly inside r (at n)

  -- of some regions, a region is strictly inside none
  abbrev pub topmost : List ℕ → ℕ → Bool
  topmost others n = not (list_any (above (at n)) others)

  abbrev pub outermost : List ℕ → List ℕ
  outermost ns = filter (topmost ns) ns

-- the listed regions strictly inside a region
abbrev pub nested : {R : Type 0} → (R → R → Bool) → R → List R → R → List ℕ
nested inside whole xs r = filter (below inside (region_at whole xs) r) (numbers 0 xs)

-- and its holes: those of them that are strictly inside no other of them
abbrev pub holes_of : {R : Type 0} → (R → R → Bool) → R → List R → R → List ℕ
holes_of inside whole xs r = outermost inside (region_at whole xs) (nested inside whole xs r)

-- a cell is given by its region's number and then its holes'
module _ {R P : Type 0} (holds : R → P → Bool) (at : ℕ → R) where
  abbrev pub holding : P → ℕ → Bool
  holding p n = holds (at n) p

  abbrev pub in_cell : List ℕ → P → Bool
  in_cell [] p = false
  in_cell (own ∷ holes) p = holding p own && not (list_any (holding p) holes)

module _ {R P : Type 0} (shifted : P → ℕ → Edge → R → P) (at : ℕ → R) (test : P → Bool) (ns : List ℕ) where
  -- some point passes that is reached by no shift, or a shift to an edge of one of the regions, along each of n axes from the given one
  abbrev pub reaches : ℕ → ℕ → P → Bool
  reaches zero axis p = test p
  reaches (suc n) axis p = reaches n (axis + 1) p || list_any (λ k. reaches n (axis + 1) (shifted p axis Near (at k)) || reaches n (axis + 1) (shifted p axis Far (at k))) ns

  -- the same when the first shift goes to an edge of the region with the given number
  abbrev pub reaches_by : ℕ → ℕ → P → ℕ → Bool
  reaches_by n axis p k = reaches n (axis + 1) (shifted p axis Near (at k)) || reaches n (axis + 1) (shifted p axis Far (at k))

-- a point shifted to the near edge of a region along each of n axes from the given one
abbrev pub cornered : {R P : Type 0} → (P → ℕ → Edge → R → P) → R → ℕ → ℕ → P → P
cornered shifted r zero axis p = p
cornered shifted r (suc n) axis p = cornered shifted r n (axis + 1) (shifted p axis Near r)

module _ {R P : Type 0} (first : P) (axes : ℕ) (holds : R → P → Bool) (shifted : P → ℕ → Edge → R → P) (at : ℕ → R) where
  -- whether a cell holds a point, by the points that shifts reach
  abbrev pub occupied : List ℕ → Bool
  occupied cell = reaches shifted at (in_cell holds at cell) cell axes 1 first
