-- A comparison's answer is right, by the laws of its family.
use Rattle.std.proofs.Common.{◌≡◌, ℕ, ◌<◌, ◌≤◌, Bool, cond, ltb, List, ◌++◌, length, take, drop, Ok, Err, Option, Result, sym, refl, ap, ◌∙◌, subst, ⊎_elim, arith, length-take}
use Rattle.std.proofs.lemmas.List.{take-append-le, take-take, take_all}
use Rattle.std.proofs.lemmas.Bool.{cases_lt, cond-true, cond-false, lt-ltb, le-ltb}
use Rattle.family.specs.declared.edges.Edge.{Edge}
use Rattle.family.specs.Families.{FamilyLaws}
use Rattle.filter.specs.Views.{View}
use Rattle.compare.specs.declared.reports.Declined.{Declined}
use Rattle.compare.specs.declared.reports.Declined.TheVariants.{NoRowPlace, NoHolePlace}
use Rattle.compare.specs.declared.reports.Report.{Report}
use Rattle.compare.specs.declared.rows.Row.{Row}
use Rattle.compare.specs.Answered.{Reports, Rightly}
use Rattle.compare.specs.Compared.{used_places, front_of, unless_declined, list_for, rows_in, holes_in, outcome, regions_after}
use Rattle.compare.proofs.Outcomes.{too_many_axes, no_region_place, reported_on, regions_listed_lem}
use Rattle.compare.proofs.Outnumbered.{outnumber_exactly}
use Rattle.compare.proofs.RowsReported.{rows-reported}

-- a list at the front of places, read back whole
pub front_back : {X : Type 0} (xs old : List X) (n : ℕ) → n ≡ length xs → take n (xs ++ drop (length xs) old) ≡ xs
front_back xs old n e = take-append-le n xs (drop (length xs) old) (omega arith) ∙ take_all n xs (omega arith)

pub used_back : {X : Type 0} (places : ℕ) (xs old : List X) (n : ℕ) → n ≡ length xs → length xs ≤ places → take n (front_of places xs old) ≡ xs
used_back places xs old n e fits =
    let reach : n ≤ length (take places xs) = omega (arith, length-take places xs) in
    let low : n ≤ places = omega arith in
    take-append-le n (take places xs) (drop (length (take places xs)) old) reach ∙ take-take n places xs low ∙ take_all n xs (omega arith)

module _ {R P A : Type 0} {whole : R} {first : P} {axes : ℕ} {holds : R → P → Bool} {inside : R → R → Bool} {meet : R → R → Option R} {shifted : P → ℕ → Edge → R → P} (laws : FamilyLaws whole first axes holds inside meet shifted) (alike : A → A → Bool) (left right : View R A) (old regions : List R) (old-rows rows : List Row) (old-holes holes : List ℕ) where
  abbrev list : List R
  list = list_for whole first axes holds inside meet shifted alike left right (length old)

  abbrev all-rows : List Row
  all-rows = rows_in whole first axes holds inside meet shifted alike left right list

  abbrev all-holes : List ℕ
  all-holes = holes_in whole first axes holds inside meet shifted alike left right list

  abbrev Right : Result Report Declined → Type 0
  Right r = Rightly whole axes holds inside alike left right (length old) (length old-rows) (length old-holes) r regions rows holes

  module _ (few : axes ≤ 4) (fits : length list ≤ used_places (length old)) (stands : regions ≡ regions_after whole first axes holds inside meet shifted alike left right old) where
    reported : Reports whole axes holds inside alike left right list all-rows all-holes
    reported = rows-reported laws few alike left.clauses left.default right.clauses right.default (used_places (length old)) fits

    read : (n : ℕ) → n ≡ length list → take n regions ≡ list
    read n e = ap (take n) (stands ∙ sym (regions_listed_lem whole first axes holds inside meet shifted alike left right old few)) ∙ used_back (used_places (length old)) list old n e fits

    read-reported : Reports whole axes holds inside alike left right (take (length list) regions) all-rows all-holes
    read-reported = subst (λ l. Reports whole axes holds inside alike left right l all-rows all-holes) (sym (read (length list) refl)) reported

    many_rows : (r : Result Report Declined) → r ≡ Err NoRowPlace → length old-rows < length all-rows → Right r
    many_rows r e over = subst Right (sym e) (length list, all-rows, all-holes, read-reported, over)

    many_holes : (r : Result Report Declined) → r ≡ Err NoHolePlace → length all-rows ≤ length old-rows → length old-holes < length all-holes → Right r
    many_holes r e within over = subst Right (sym e) (length list, all-rows, all-holes, read-reported, within, over)

    abbrev told : Report
    told = record { regions = length list; rows = length all-rows; holes = length all-holes }

    all_told : (r : Result Report Declined) → r ≡ Ok told → rows ≡ unless_declined r all-rows old-rows → holes ≡ unless_declined r all-holes old-holes → Right r
    all_told r e rows_are holes-are =
        let its-rows = ap (take (length all-rows)) (rows_are ∙ ap (λ o. unless_declined o all-rows old-rows) e) ∙ front_back all-rows old-rows (length all-rows) refl in
        let its-holes = ap (take (length all-holes)) (holes-are ∙ ap (λ o. unless_declined o all-holes old-holes) e) ∙ front_back all-holes old-holes (length all-holes) refl in
        subst Right (sym e)
        (subst (λ l. Reports whole axes holds inside alike left right (take (length list) regions) (take (length all-rows) rows) l) (sym its-holes)
        (subst (λ l. Reports whole axes holds inside alike left right (take (length list) regions) l all-holes) (sym its-rows) read-reported))

    reported_right : (r : Result Report Declined) → r ≡ outcome whole first axes holds inside meet shifted alike left right (length old) (length old-rows) (length old-holes) → rows ≡ unless_declined r all-rows old-rows → holes ≡ unless_declined r all-holes old-holes → Right r
    reported_right r e rows_are holes-are =
        let made = e ∙ sym (reported_on whole first axes holds inside meet shifted alike left right (length old) (length old-rows) (length old-holes) few fits) in
        let more : Result Report Declined = cond (ltb (length old-holes) (length all-holes)) (Err NoHolePlace) (Ok told) in
        ⊎_elim
        (λ over. many_rows r (made ∙ cond-true (ltb (length old-rows) (length all-rows)) (Err NoRowPlace) more (lt-ltb _ _ over)) over)
        (λ within.
        let next = made ∙ cond-false (ltb (length old-rows) (length all-rows)) (Err NoRowPlace) more (le-ltb _ _ within) in
        ⊎_elim
        (λ over. many_holes r (next ∙ cond-true (ltb (length old-holes) (length all-holes)) (Err NoHolePlace) (Ok told) (lt-ltb _ _ over)) within over)
        (λ room. all_told r (next ∙ cond-false (ltb (length old-holes) (length all-holes)) (Err NoHolePlace) (Ok told) (le-ltb _ _ room)) rows_are holes-are)
        (cases_lt (length old-holes) (length all-holes)))
        (cases_lt (length old-rows) (length all-rows))

  pub answered_rightly : (r : Result Report Declined) → r ≡ outcome whole first axes holds inside meet shifted alike left right (length old) (length old-rows) (length old-holes) → regions ≡ regions_after whole first axes holds inside meet shifted alike left right old → rows ≡ unless_declined r all-rows old-rows → holes ≡ unless_declined r all-holes old-holes → Right r
  answered_rightly r e stands rows_are holes-are =
      ⊎_elim
      (λ many. subst Right (sym (e ∙ sym (too_many_axes whole first axes holds inside meet shifted alike left right (length old) (length old-rows) (length old-holes) many))) many)
      (λ few.
      ⊎_elim
      (λ over. subst Right (sym (e ∙ sym (no_region_place whole first axes holds inside meet shifted alike left right (length old) (length old-rows) (length old-holes) few over))) ((outnumber_exactly laws left.clauses right.clauses (used_places (length old))).0 over))
      (λ fits. reported_right few fits stands r e rows_are holes-are)
      (cases_lt (used_places (length old)) (length list)))
      (cases_lt 4 axes)
