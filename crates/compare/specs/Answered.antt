-- When a comparison's answer is right: its report lists exactly the routes treated unlike, or it declined because it had to.
use Rattle.std.specs.Prelude.{ℕ, ◌<◌, ◌≤◌, Bool, List, length, take, Ok, Err, Result}
use Rattle.filter.specs.Views.{View}
use Rattle.compare.specs.declared.reports.Declined.{Declined}
use Rattle.compare.specs.declared.reports.Declined.TheVariants.{TooManyAxes, NoRegionPlace, NoRowPlace, NoHolePlace}
use Rattle.compare.specs.declared.reports.Report.{Report}
use Rattle.compare.specs.declared.rows.Row.{Row}
use Rattle.compare.specs.Compared.{used_places}
use Rattle.compare.specs.Meets.{clause_regions, Outnumber}
use Rattle.compare.specs.Reported.{Reported}

module _ {R P A : Type 0} (whole : R) (axes : ℕ) (holds : R → P → Bool) (inside : R → R → Bool) (alike : A → A → Bool) (left right : View R A) where
  -- what stands in the buffers reports the two filters
  abbrev pub Reports : List R → List Row → List ℕ → Type 0
  Reports regions rows holes = Reported whole holds inside alike left.clauses left.default right.clauses right.default regions rows holes

  module _ (places row-places hole-places : ℕ) where
    -- a refusal had to be: too many axes, more meets than places for regions, more rows or holes than places for them
    abbrev pub HadTo : Declined → List R → Type 0
    HadTo TooManyAxes regions = 4 < axes
    HadTo NoRegionPlace regions = Outnumber holds whole (clause_regions left.clauses right.clauses) (used_places places)
    HadTo NoRowPlace regions = (count : ℕ) × (rows : List Row) × (holes : List ℕ) × Reports (take count regions) rows holes × (row-places < length rows)
    HadTo NoHolePlace regions = (count : ℕ) × (rows : List Row) × (holes : List ℕ) × Reports (take count regions) rows holes × (length rows ≤ row-places) × (hole-places < length holes)

    -- the answer, with what the three buffers then hold
    abbrev pub Rightly : Result Report Declined → List R → List Row → List ℕ → Type 0
    Rightly (Ok report) regions rows holes = Reports (take report.regions regions) (take report.rows rows) (take report.holes holes)
    Rightly (Err declined) regions rows holes = HadTo declined regions
