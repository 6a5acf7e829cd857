-- What a region list is to hold: the whole region and the meets of clauses' regions, each once.
use Rattle.std.specs.Prelude.{◌≡◌, ℕ, ◌<◌, Bool, true, ◌&&◌, ◌⊎◌, List, [], ◌∷◌, ◌++◌, map, length, Some}
use mathlib.Core.List.{Memᴰ}
use Rattle.std.specs.List.{AllByRecursion, slice_get}
use Rattle.family.specs.declared.clauses.Clause.{Clause}

-- nothing stands at two places of a list
abbrev pub Once : {X : Type 0} → List X → Type 0
Once {X} xs = (m n : ℕ) (x : X) → slice_get xs m ≡ Some x → slice_get xs n ≡ Some x → m ≡ n

-- the regions of two filters' clauses
abbrev pub clause_regions : {R A : Type 0} → List (Clause R A) → List (Clause R A) → List R
clause_regions left right = map (λ c. c.region) left ++ map (λ c. c.region) right

module _ {R P : Type 0} (holds : R → P → Bool) where
  -- whether all of some regions hold a point
  abbrev pub held_by_all : List R → P → Bool
  held_by_all [] p = true
  held_by_all (r ∷ rs) p = holds r p && held_by_all rs p

  -- a region that holds exactly the points that all of some regions hold
  abbrev pub IsMeet : List R → R → Type 0
  IsMeet parts r = (p : P) → holds r p ≡ held_by_all parts p

  module _ (whole : R) (given : List R) where
    -- a region that the list is to hold: the whole region, or a meet of one or more of the given ones
    abbrev pub Belongs : R → Type 0
    Belongs r = (r ≡ whole) ⊎ ((one : R) × (others : List R) × AllByRecursion (λ part. Memᴰ part given) (one ∷ others) × IsMeet (one ∷ others) r)

    -- a list of nothing but these, all of them, each once
    pub record Listed (regions : List R) : Type 0 where
      pub only : (n : ℕ) (r : R) → slice_get regions n ≡ Some r → Belongs r
      pub all : (r : R) → Belongs r → (n : ℕ) × (slice_get regions n ≡ Some r)
      pub once : Once regions

    -- there are more than so many of them
    abbrev pub Outnumber : ℕ → Type 0
    Outnumber places = (many : List R) × (places < length many) × Once many × AllByRecursion Belongs many
