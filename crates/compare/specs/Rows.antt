-- The rows of a comparison: the cells that hold a point and whose two actions are not alike.
use Rattle.std.specs.Prelude.{ℕ, ◌+◌, Bool, cond, ◌&&◌, ◌||◌, List, [], ◌∷◌, ◌++◌, length, Some, None, fold, Option, ◌==◌, nat_lt}
use Rattle.std.specs.List.{insert}
use Rattle.family.specs.Clauses.{action_at}
use Rattle.family.specs.Lists.{first_where}
use Rattle.family.specs.declared.clauses.Clause.{Clause}
use Rattle.family.specs.declared.edges.Edge.{Edge}
use Rattle.compare.specs.declared.rows.Row.{Row}
use Rattle.compare.specs.Cells.{region_at, numbers, holes_of, occupied}

-- whether a clause's region has all of a region
abbrev pub covers : {R A : Type 0} → (R → R → Bool) → R → Clause R A → Bool
covers inside r c = inside r c.region

-- the clause that decides a region's cell: the first that covers the region, or the default's place
abbrev pub place_of : {R A : Type 0} → (R → R → Bool) → List (Clause R A) → R → ℕ
place_of inside clauses r = first_where (covers inside r) clauses

-- rows are ordered by left place, then right place
abbrev pub precedes : Row → Row → Bool
precedes a b = nat_lt a.left b.left || (a.left == b.left && nat_lt a.right b.right)

-- a row put behind those that it does not precede
abbrev pub ranked : List Row → Row → List Row
ranked rows row = insert rows (first_where (precedes row) rows) row

abbrev pub ranked_some : List Row → Option Row → List Row
ranked_some rows None = rows
ranked_some rows (Some row) = ranked rows row

-- the rows with the starts of their holes, the first at the given place
abbrev pub laid : ℕ → List Row → List Row
laid start [] = []
laid start (row ∷ rows) = record { left = row.left; right = row.right; region = row.region; start = start; number = row.number } ∷ laid (start + row.number) rows

module _ {R P A : Type 0} (whole : R) (first : P) (axes : ℕ) (holds : R → P → Bool) (inside : R → R → Bool) (shifted : P → ℕ → Edge → R → P) (alike : A → A → Bool) where
  module _ (xs : List R) (left : List (Clause R A)) (left-default : A) (right : List (Clause R A)) (right-default : A) where
    -- whether the two deciding actions of a region's cell are alike
    abbrev pub alike_at : R → Bool
    alike_at r = alike (action_at left left-default (place_of inside left r)) (action_at right right-default (place_of inside right r))

    abbrev pub row_for : ℕ → R → Row
    row_for n r = record { left = place_of inside left r; right = place_of inside right r; region = n; start = 0; number = length (holes_of inside whole xs r) }

    -- the row of a listed region, where its cell holds a point and is treated unlike
    abbrev pub row_at : ℕ → Option Row
    row_at n =
        let r = region_at whole xs n in
        cond (alike_at r) None (cond (occupied first axes holds shifted (region_at whole xs) (n ∷ holes_of inside whole xs r)) (Some (row_for n r)) None)

    -- rows with those of some numbered regions put in their places, and the rows of all
    abbrev pub ranked_from : List Row → List ℕ → List Row
    ranked_from rows ns = fold (λ so_far n. ranked_some so_far (row_at n)) rows ns

    abbrev pub rows_found : List Row
    rows_found = ranked_from [] (numbers 0 xs)

    abbrev pub rows_of : List Row
    rows_of = laid 0 rows_found

-- the holes of all rows, one row after the other
abbrev pub add_holes : {R : Type 0} → (R → R → Bool) → R → List R → List ℕ → Row → List ℕ
add_holes inside whole xs so_far row = so_far ++ holes_of inside whole xs (region_at whole xs row.region)

abbrev pub holes_of_rows : {R : Type 0} → (R → R → Bool) → R → List R → List Row → List ℕ
holes_of_rows inside whole xs rows = fold (add_holes inside whole xs) [] rows
