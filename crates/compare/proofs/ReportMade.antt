-- The report on a region list, by the rows that were found.
use Rattle.std.proofs.Common.{◌≡◌, ℕ, ◌<◌, ◌≤◌, Bool, cond, ltb, List, length, Ok, Err, sum_by, Option, Result, sym, ap, ◌∙◌}
use Rattle.std.proofs.lemmas.Bool.{cond-true, cond-false, lt-ltb, le-ltb}
use Rattle.family.specs.declared.edges.Edge.{Edge}
use Rattle.filter.specs.Views.{View}
use Rattle.compare.specs.declared.reports.Declined.{Declined}
use Rattle.compare.specs.declared.reports.Declined.TheVariants.{NoRowPlace, NoHolePlace}
use Rattle.compare.specs.declared.reports.Report.{Report}
use Rattle.compare.specs.declared.rows.Row.{Row}
use Rattle.compare.specs.Compared.{rows_in, holes_in, report_on}
use Rattle.compare.specs.Rows.{laid, rows_found, holes_of_rows}
use Rattle.compare.proofs.HoleTotals.{holes-laid, found_total}
use Rattle.compare.proofs.LaidOut.{hole_count, length-laid}

module _ {R P A : Type 0} (whole : R) (first : P) (axes : ℕ) (holds : R → P → Bool) (inside : R → R → Bool) (meet : R → R → Option R) (shifted : P → ℕ → Edge → R → P) (alike : A → A → Bool) (left right : View R A) (xs : List R) (found : List Row) (is : found ≡ rows_found whole first axes holds inside shifted alike xs left.clauses left.default right.clauses right.default) where
  abbrev rows_here : List Row
  rows_here = rows_in whole first axes holds inside meet shifted alike left right xs

  abbrev holes_here : List ℕ
  holes_here = holes_in whole first axes holds inside meet shifted alike left right xs

  pub rows-laid : rows_here ≡ laid 0 found
  rows-laid = sym (ap (laid 0) is)

  pub holes_laid_out : holes_here ≡ holes_of_rows inside whole xs found
  holes_laid_out = ap (holes_of_rows inside whole xs) rows-laid ∙ holes-laid inside whole xs 0 found

  pub row_count : length rows_here ≡ length found
  row_count = ap length rows-laid ∙ length-laid 0 found

  pub hole_count_lem : length holes_here ≡ sum_by hole_count found
  hole_count_lem =
      ap length holes_laid_out ∙ ap (λ l. length (holes_of_rows inside whole xs l)) is
      ∙ sym (found_total whole first axes holds inside shifted alike xs left.clauses left.default right.clauses right.default) ∙ ap (sum_by hole_count) (sym is)

  module _ (row-places hole-places : ℕ) where
    made : ℕ → ℕ → Result Report Declined
    made rows holes = cond (ltb row-places rows) (Err NoRowPlace) (cond (ltb hole-places holes) (Err NoHolePlace) (Ok (record { regions = length xs; rows = rows; holes = holes })))

    made_is : made (length found) (sum_by hole_count found) ≡ report_on whole first axes holds inside meet shifted alike left right xs row-places hole-places
    unfolding made
    made_is = ap (λ n. made n (sum_by hole_count found)) (sym row_count) ∙ ap (made (length rows_here)) (sym hole_count_lem)

    pub no_row_place : row-places < length found → Err NoRowPlace ≡ report_on whole first axes holds inside meet shifted alike left right xs row-places hole-places
    unfolding made
    no_row_place h = sym (cond-true (ltb row-places (length found)) _ _ (lt-ltb _ _ h)) ∙ made_is

    pub no_hole_place : length found ≤ row-places → hole-places < sum_by hole_count found → Err NoHolePlace ≡ report_on whole first axes holds inside meet shifted alike left right xs row-places hole-places
    unfolding made
    no_hole_place h k = sym (cond-false (ltb row-places (length found)) _ _ (le-ltb _ _ h) ∙ cond-true (ltb hole-places (sum_by hole_count found)) _ _ (lt-ltb _ _ k)) ∙ made_is

    pub all_placed : length found ≤ row-places → sum_by hole_count found ≤ hole-places → Ok (record { regions = length xs; rows = length found; holes = sum_by hole_count found }) ≡ report_on whole first axes holds inside meet shifted alike left right xs row-places hole-places
    unfolding made
    all_placed h k = sym (cond-false (ltb row-places (length found)) _ _ (le-ltb _ _ h) ∙ cond-false (ltb hole-places (sum_by hole_count found)) _ _ (le-ltb _ _ k)) ∙ made_is
