-- A comparison's answer, by what was written over the first of its region places.
use Rattle.std.proofs.Common.{◌≡◌, ℕ, ◌<◌, ◌≤◌, Bool, min, List, ◌++◌, length, take, drop, Some, None, Err, Option, Result, sym, ap, ◌∙◌, subst, arith, length-take}
use Rattle.family.specs.declared.clauses.Clause.{Clause}
use Rattle.family.specs.declared.edges.Edge.{Edge}
use Rattle.family.specs.Families.{FamilyLaws}
use Rattle.filter.specs.Views.{View}
use Rattle.compare.specs.declared.reports.Declined.{Declined}
use Rattle.compare.specs.declared.reports.Declined.TheVariants.{NoRegionPlace}
use Rattle.compare.specs.declared.reports.Report.{Report}
use Rattle.compare.specs.declared.rows.Row.{Row}
use Rattle.compare.specs.Answered.{Rightly}
use Rattle.compare.specs.Compared.{used_places, front_of, unless_declined, list_for, rows_in, holes_in, report_on, outcome, regions_after}
use Rattle.compare.specs.Regions.{region_list}
use Rattle.compare.specs.Written.{Written}
use Rattle.compare.proofs.AnsweredRightly.{answered_rightly}
use Rattle.compare.proofs.Outcomes.{list_over, no_region_place, reported_on, regions_listed_lem}
use Rattle.compare.proofs.UsedPlaces.{too_many, front_full, few_enough, front_whole, list_read}

module _ {R P A : Type 0} {whole : R} {first : P} {axes : ℕ} {holds : R → P → Bool} {inside : R → R → Bool} {meet : R → R → Option R} {shifted : P → ℕ → Edge → R → P} (laws : FamilyLaws whole first axes holds inside meet shifted) (alike : A → A → Bool) (left right : View R A) (old : List R) (rows : List Row) (holes : List ℕ) (few : axes ≤ 4) (used : ℕ) (used-is : used ≡ min (length old) 1024) (lefts rights : List (Clause R A)) (lefts-are : lefts ≡ left.clauses) (rights-are : rights ≡ right.clauses) (part : List R) where
  abbrev list : List R
  list = list_for whole first axes holds inside meet shifted alike left right (length old)

  abbrev Gathered : Option ℕ → Type 0
  Gathered told = Written (take used old) (region_list inside meet (length (take used old)) whole lefts rights) told part

  abbrev after : List R
  after = part ++ drop used old

  abbrev Right : Result Report Declined → List Row → List ℕ → Type 0
  Right r new-rows new-holes = Rightly whole axes holds inside alike left right (length old) (length rows) (length holes) r after new-rows new-holes

  within : used ≤ length old
  within = omega arith

  places : used ≡ used_places (length old)
  places = omega arith

  over-list : (told : Option ℕ) → Gathered told → Written (take used old) list told part
  over-list told w = subst (λ l. Written (take used old) l told part) (list_over inside meet whole (omega (arith, length-take used old)) lefts-are rights-are) w

  -- the list has more regions than places
  module _ (told : Option ℕ) (none : told ≡ None) (gathered : Gathered told) where
    short : Written (take used old) list None part
    short = subst (λ o. Written (take used old) list o part) none (over-list told gathered)

    begun : after ≡ regions_after whole first axes holds inside meet shifted alike left right old
    begun = front_full old list part used within short ∙ ap (λ k. front_of k list old) places ∙ regions_listed_lem whole first axes holds inside meet shifted alike left right old few

    pub declined_rightly : (r : Result Report Declined) → r ≡ Err NoRegionPlace → Right r rows holes
    declined_rightly r e =
        let more : used_places (length old) < length list = omega (arith, places, too_many old list part used within short) in
        answered_rightly laws alike left right old after rows rows holes holes r (e ∙ no_region_place whole first axes holds inside meet shifted alike left right (length old) (length rows) (length holes) few more) begun
        (ap (λ o. unless_declined o (rows_in whole first axes holds inside meet shifted alike left right list) rows) (sym e)) (ap (λ o. unless_declined o (holes_in whole first axes holds inside meet shifted alike left right list) holes) (sym e))

  -- it stands whole, and is what is reported on
  module _ (told : Option ℕ) (count : ℕ) (some : told ≡ Some count) (gathered : Gathered told) (listed : List R) (read : listed ≡ take count after) where
    stands : Written (take used old) list (Some count) part
    stands = subst (λ o. Written (take used old) list o part) some (over-list told gathered)

    pub list-is : listed ≡ list
    list-is = read ∙ list_read old list part used within count stands

    pub regions_written : after ≡ regions_after whole first axes holds inside meet shifted alike left right old
    regions_written = front_whole old list part used within count stands ∙ ap (λ k. front_of k list old) places ∙ regions_listed_lem whole first axes holds inside meet shifted alike left right old few

    pub outcome_told : report_on whole first axes holds inside meet shifted alike left right listed (length rows) (length holes) ≡ outcome whole first axes holds inside meet shifted alike left right (length old) (length rows) (length holes)
    outcome_told =
        ap (λ x. report_on whole first axes holds inside meet shifted alike left right x (length rows) (length holes)) list-is
        ∙ reported_on whole first axes holds inside meet shifted alike left right (length old) (length rows) (length holes) few (omega (arith, places, few_enough old list part used within count stands))
