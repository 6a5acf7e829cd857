-- What a comparison answers, test after test.
use Rattle.std.proofs.Common.{◌≡◌, ℕ, ◌<◌, ◌≤◌, Bool, cond, ltb, List, length, Ok, Err, Option, sym, ap, ◌∙◌}
use Rattle.std.proofs.lemmas.Bool.{cond-true, cond-false, lt-ltb, le-ltb, ltb-false}
use Rattle.family.specs.declared.clauses.Clause.{Clause}
use Rattle.family.specs.declared.edges.Edge.{Edge}
use Rattle.filter.specs.Views.{View}
use Rattle.fields.proofs.Inversion.{not_refused, same-value}
use Rattle.compare.specs.declared.reports.Declined.TheVariants.{TooManyAxes, NoRegionPlace, NoRowPlace, NoHolePlace}
use Rattle.compare.specs.declared.reports.Report.{Report}
use Rattle.compare.specs.Compared.{used_places, front_of, list_for, rows_in, holes_in, report_on, outcome, regions_after}
use Rattle.compare.specs.Regions.{region_list}

-- the region list over clauses that are known by equations, and places that are counted
pub list_over : {R A : Type 0} (inside : R → R → Bool) (meet : R → R → Option R) (whole : R) {n n' : ℕ} {left left' right right' : List (Clause R A)} → n ≡ n' → left ≡ left' → right ≡ right' → region_list inside meet n whole left right ≡ region_list inside meet n' whole left' right'
list_over inside meet whole {n} {n'} {left} {left'} {right} {right'} a b c =
    ap (λ x. region_list inside meet x whole left right) a ∙ ap (λ x. region_list inside meet n' whole x right) b ∙ ap (λ x. region_list inside meet n' whole left' x) c

module _ {R P A : Type 0} (whole : R) (first : P) (axes : ℕ) (holds : R → P → Bool) (inside : R → R → Bool) (meet : R → R → Option R) (shifted : P → ℕ → Edge → R → P) (alike : A → A → Bool) (left right : View R A) where
  module _ (places row-places hole-places : ℕ) where
    pub too_many_axes : 4 < axes → Err TooManyAxes ≡ outcome whole first axes holds inside meet shifted alike left right places row-places hole-places
    too_many_axes h = sym (cond-true (ltb 4 axes) _ _ (lt-ltb 4 axes h))

    pub no_region_place : axes ≤ 4 → used_places places < length (list_for whole first axes holds inside meet shifted alike left right places) → Err NoRegionPlace ≡ outcome whole first axes holds inside meet shifted alike left right places row-places hole-places
    no_region_place h k = sym (cond-false (ltb 4 axes) _ _ (le-ltb 4 axes h) ∙ cond-true (ltb (used_places places) (length (list_for whole first axes holds inside meet shifted alike left right places))) _ _ (lt-ltb _ _ k))

    pub reported_on : axes ≤ 4 → length (list_for whole first axes holds inside meet shifted alike left right places) ≤ used_places places → report_on whole first axes holds inside meet shifted alike left right (list_for whole first axes holds inside meet shifted alike left right places) row-places hole-places ≡ outcome whole first axes holds inside meet shifted alike left right places row-places hole-places
    reported_on h k = sym (cond-false (ltb 4 axes) _ _ (le-ltb 4 axes h) ∙ cond-false (ltb (used_places places) (length (list_for whole first axes holds inside meet shifted alike left right places))) _ _ (le-ltb _ _ k))

  pub regions_listed_lem : (old : List R) → axes ≤ 4 → front_of (used_places (length old)) (list_for whole first axes holds inside meet shifted alike left right (length old)) old ≡ regions_after whole first axes holds inside meet shifted alike left right old
  regions_listed_lem old h = sym (cond-false (ltb 4 axes) _ _ (le-ltb 4 axes h))

  -- a report that was made says what was written, all of which had its places
  pub record Told (places row-places hole-places : ℕ) (report : Report) : Type 0 where
    pub few_axes : axes ≤ 4
    pub regions_fit : length (list_for whole first axes holds inside meet shifted alike left right places) ≤ used_places places
    pub rows_fit : length (rows_in whole first axes holds inside meet shifted alike left right (list_for whole first axes holds inside meet shifted alike left right places)) ≤ row-places
    pub holes_fit : length (holes_in whole first axes holds inside meet shifted alike left right (list_for whole first axes holds inside meet shifted alike left right places)) ≤ hole-places
    pub regions_told : report.regions ≡ length (list_for whole first axes holds inside meet shifted alike left right places)
    pub rows_told : report.rows ≡ length (rows_in whole first axes holds inside meet shifted alike left right (list_for whole first axes holds inside meet shifted alike left right places))
    pub holes-told : report.holes ≡ length (holes_in whole first axes holds inside meet shifted alike left right (list_for whole first axes holds inside meet shifted alike left right places))

  pub report_told : (places row-places hole-places : ℕ) (report : Report) → outcome whole first axes holds inside meet shifted alike left right places row-places hole-places ≡ Ok report → Told places row-places hole-places report
  report_told places row-places hole-places report e =
      let list = list_for whole first axes holds inside meet shifted alike left right places in
      let rows = rows_in whole first axes holds inside meet shifted alike left right list in
      let holes = holes_in whole first axes holds inside meet shifted alike left right list in
      let told : Report = record { regions = length list; rows = length rows; holes = length holes } in
      let axes-pass = not_refused (ltb 4 axes) TooManyAxes _ report e in
      let regions-pass = not_refused (ltb (used_places places) (length list)) NoRegionPlace _ report axes-pass.1 in
      let rows_pass = not_refused (ltb row-places (length rows)) NoRowPlace (cond (ltb hole-places (length holes)) (Err NoHolePlace) (Ok told)) report regions-pass.1 in
      let holes-pass = not_refused (ltb hole-places (length holes)) NoHolePlace (Ok told) report rows_pass.1 in
      let same = same-value told report holes-pass.1 in
      record {
        few_axes = ltb-false 4 axes axes-pass.0;
        regions_fit = ltb-false _ _ regions-pass.0;
        rows_fit = ltb-false _ _ rows_pass.0;
        holes_fit = ltb-false _ _ holes-pass.0;
        regions_told = sym (ap (λ x. x.regions) same);
        rows_told = sym (ap (λ x. x.rows) same);
        holes-told = sym (ap (λ x. x.holes) same);
      }
