-- The region list of two filters: the whole region, the clauses' regions and the meets, each put at the end unless it stands.
use Rattle.std.specs.Prelude.{ℕ, zero, suc, Bool, cond, ◌&&◌, List, [], ◌∷◌, ◌++◌, take, drop, Some, None, fold, Option}
use Rattle.std.specs.List.{list_any}
use Rattle.family.specs.declared.clauses.Clause.{Clause}

module _ {R : Type 0} (inside : R → R → Bool) where
  -- two regions are the same when each is inside the other
  abbrev pub same : R → R → Bool
  same a b = inside a b && inside b a

  abbrev pub stands : R → List R → Bool
  stands r xs = list_any (same r) xs

  -- a region put at the end unless it stands
  abbrev pub put : List R → R → List R
  put xs r = cond (stands r xs) xs (xs ++ (r ∷ []))

  abbrev pub put_clauses : {A : Type 0} → List (Clause R A) → List R → List R
  put_clauses clauses xs = fold (λ ys c. put ys c.region) xs clauses

  abbrev pub put_meet : List R → Option R → List R
  put_meet xs None = xs
  put_meet xs (Some m) = put xs m

  module _ (meet : R → R → Option R) where
    -- the meets of a region with each of others, in turn
    abbrev pub put_meets : R → List R → List R → List R
    put_meets r others xs = fold (λ ys b. put_meet ys (meet r b)) xs others

    -- so many turns from the region at place a on: the meets of each with all regions before it
    abbrev pub grown : ℕ → ℕ → List R → List R
    grown zero a xs = xs
    grown (suc n) a xs = elim (drop a xs) [ [] ↦ xs | r ∷ rest ↦ grown n (suc a) (put_meets r (take a xs) xs) ]

    -- the list of two filters' regions, grown for as many turns as there are places
    abbrev pub region_list : {A : Type 0} → ℕ → R → List (Clause R A) → List (Clause R A) → List R
    region_list places whole left right = grown places 0 (put_clauses right (put_clauses left (whole ∷ [])))
