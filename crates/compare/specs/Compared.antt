-- What a comparison answers, and what it leaves in the three lent buffers.
use Rattle.std.specs.Prelude.{ℕ, min, Bool, cond, List, ◌++◌, length, take, drop, Ok, Err, Option, Result, nat_lt}
use Rattle.family.specs.declared.edges.Edge.{Edge}
use Rattle.filter.specs.Views.{View}
use Rattle.compare.specs.declared.reports.Declined.{Declined}
use Rattle.compare.specs.declared.reports.Declined.TheVariants.{TooManyAxes, NoRegionPlace, NoRowPlace, NoHolePlace}
use Rattle.compare.specs.declared.reports.Report.{Report}
use Rattle.compare.specs.declared.rows.Row.{Row}
use Rattle.compare.specs.Regions.{region_list}
use Rattle.compare.specs.Rows.{rows_of, holes_of_rows}

-- of the region places the first 1,024 are used, or all if fewer
abbrev pub used_places : ℕ → ℕ
used_places places = min 1024 places

-- a list at the front of so many of the places, as far as they reach, and the others as they were
abbrev pub front_of : {X : Type 0} → ℕ → List X → List X → List X
front_of places xs old = take places xs ++ drop (length (take places xs)) old

-- a list at the front of the places where the comparison was not declined, else the places as they were
abbrev pub unless_declined : {X : Type 0} → Result Report Declined → List X → List X → List X
unless_declined (Ok report) xs old = xs ++ drop (length xs) old
unless_declined (Err declined) xs old = old

module _ {R P A : Type 0} (whole : R) (first : P) (axes : ℕ) (holds : R → P → Bool) (inside : R → R → Bool) (meet : R → R → Option R) (shifted : P → ℕ → Edge → R → P) (alike : A → A → Bool) (left right : View R A) where
  -- the region list, as far as so many region places go
  abbrev pub list_for : ℕ → List R
  list_for places = region_list inside meet (used_places places) whole left.clauses right.clauses

  abbrev pub rows_in : List R → List Row
  rows_in xs = rows_of whole first axes holds inside shifted alike xs left.clauses left.default right.clauses right.default

  abbrev pub holes_in : List R → List ℕ
  holes_in xs = holes_of_rows inside whole xs (rows_in xs)

  -- the report on a region list, where rows and holes have their places
  abbrev pub report_on : List R → ℕ → ℕ → Result Report Declined
  report_on xs row-places hole-places =
      cond (nat_lt row-places (length (rows_in xs))) (Err NoRowPlace)
      (cond (nat_lt hole-places (length (holes_in xs))) (Err NoHolePlace)
      (Ok (record { regions = length xs; rows = length (rows_in xs); holes = length (holes_in xs) })))

  -- what is answered, by the numbers of places alone
  abbrev pub outcome : ℕ → ℕ → ℕ → Result Report Declined
  outcome places row-places hole-places =
      cond (nat_lt 4 axes) (Err TooManyAxes)
      (cond (nat_lt (used_places places) (length (list_for places))) (Err NoRegionPlace)
      (report_on (list_for places) row-places hole-places))

  abbrev pub regions_after : List R → List R
  regions_after old = cond (nat_lt 4 axes) old (front_of (used_places (length old)) (list_for (length old)) old)
