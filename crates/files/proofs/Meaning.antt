-- The comparison of two files means what it should.
use Rattle.std.proofs.Common.{◌≡◌, ℕ, List, length, take, replicate, Ok, Err, Result, sym, refl, ap, ◌∙◌, subst, arith}
use lib.ListN.{length-replicate}
use Rattle.std.proofs.lemmas.List.{take_all}
use Rattle.family.specs.declared.clauses.Clause.{Clause}
use Rattle.supplied.specs.declared.actions.RouteAction.{RouteAction}
use Rattle.supplied.specs.declared.ranges.PrefixRange.{PrefixRange}
use Rattle.supplied.specs.Actions.{same_action}
use Rattle.supplied.specs.PrefixRanges.{whole_prefix, first_of_routes, prefix_holds, prefix_inside, prefix_meet, route_shifted}
use Rattle.supplied.proofs.PrefixLaws.{prefix_laws}
use Rattle.fields.specs.declared.faults.Fault.{Fault}
use Rattle.compare.specs.declared.reports.Declined.{Declined}
use Rattle.compare.specs.declared.reports.Report.{Report}
use Rattle.compare.specs.declared.rows.Row.{Row}
use Rattle.compare.specs.Answered.{Reports, HadTo}
use Rattle.compare.specs.Compared.{outcome, regions_after}
use Rattle.compare.proofs.AnsweredRightly.{answered_rightly}
use Rattle.compare.proofs.Outcomes.{report_told}
use Rattle.compare.proofs.RowsReported.{rows-reported}
use Rattle.listing.specs.Listings.{listing}
use Rattle.files.specs.Compared.{Filter, file_read, filter_of, regions_listed, rows_listed, holes_listed, answered, listing_of, filters_compared, files_compared}
use Rattle.files.proofs.NoRows.{no_rows}
use Rattle.files.specs.Meant.{ListsUnlike, HadToDecline, Meant}

abbrev FileRead : Type 0
FileRead = List (Clause PrefixRange RouteAction) × RouteAction

module _ (left right : Filter) where
  lists : (report : Report) → answered left right ≡ Ok report → ListsUnlike left right (listing (take report.regions (regions_listed left right)) (take report.rows (rows_listed left right)) (take report.holes (holes_listed left right)) (length left.clauses) (length right.clauses))
  lists report is =
      let told = report_told whole_prefix first_of_routes 2 prefix_holds prefix_inside prefix_meet route_shifted same_action left right 1024 1024 4096 report is in
      let regions = regions_listed left right in
      let rows = rows_listed left right in
      let holes = holes_listed left right in
      let lefts = length left.clauses in
      let rights = length right.clauses in
      let reported : Reports whole_prefix 2 prefix_holds prefix_inside same_action left right regions rows holes =
      rows-reported prefix_laws told.few_axes same_action left.clauses left.default right.clauses right.default 1024 told.regions_fit in
      let text : listing (take report.regions regions) (take report.rows rows) (take report.holes holes) lefts rights ≡ listing regions rows holes lefts rights =
      ap (λ l. listing l (take report.rows rows) (take report.holes holes) lefts rights) (take_all report.regions regions (omega (arith, told.regions_told)))
      ∙ ap (λ l. listing regions l (take report.holes holes) lefts rights) (take_all report.rows rows (omega (arith, told.rows_told)))
      ∙ ap (λ l. listing regions rows l lefts rights) (take_all report.holes holes (omega (arith, told.holes-told))) in
      let counted = no_rows regions holes lefts rights rows (omega (arith, told.rows_fit)) in
      (regions, rows, holes, reported, text, (λ is. reported.none.0 (counted.0 (sym text ∙ is)), λ alike. text ∙ counted.1 (reported.none.1 alike)))

  -- with any places of these numbers
  module _ (old : List PrefixRange) (old-rows : List Row) (old-holes : List ℕ) (n : length old ≡ 1024) (k : length old-rows ≡ 1024) (m : length old-holes ≡ 4096) where
    abbrev Had : ℕ → ℕ → ℕ → Declined → Type 0
    Had places row-places hole-places declined = HadTo whole_prefix 2 prefix_holds prefix_inside same_action left right places row-places hole-places declined (regions_after whole_prefix first_of_routes 2 prefix_holds prefix_inside prefix_meet route_shifted same_action left right old)

    abbrev told : ℕ → ℕ → ℕ → Result Report Declined
    told places row-places hole-places = outcome whole_prefix first_of_routes 2 prefix_holds prefix_inside prefix_meet route_shifted same_action left right places row-places hole-places

    had_to : (declined : Declined) → answered left right ≡ Err declined → HadToDecline left right declined
    had_to declined is =
        let same : Err declined ≡ told (length old) (length old-rows) (length old-holes) =
        sym is ∙ ap (λ x. told x 1024 4096) (sym n) ∙ ap (λ x. told (length old) x 4096) (sym k) ∙ ap (told (length old) (length old-rows)) (sym m) in
        let had : Had (length old) (length old-rows) (length old-holes) declined =
        answered_rightly prefix_laws same_action left right old (regions_after whole_prefix first_of_routes 2 prefix_holds prefix_inside prefix_meet route_shifted same_action left right old) old-rows old-rows old-holes old-holes (Err declined) same refl refl refl in
        (regions_after whole_prefix first_of_routes 2 prefix_holds prefix_inside prefix_meet route_shifted same_action left right old, subst (λ x. Had 1024 1024 x declined) m (subst (λ x. Had 1024 x (length old-holes) declined) k (subst (λ x. Had x (length old-rows) (length old-holes) declined) n had)))

no_row : Row
no_row = record { left = 0; right = 0; region = 0; start = 0; number = 0 }

declines : (left right : Filter) (declined : Declined) → answered left right ≡ Err declined → HadToDecline left right declined
declines left right =
    had_to left right (replicate 1024 whole_prefix) (replicate 1024 no_row) (replicate 4096 0) (length-replicate 1024 whole_prefix) (length-replicate 1024 no_row) (length-replicate {A = ℕ} 4096 0)

-- of two filters, by what their comparison answers
filters_meant : (left right : List ℕ) (p q : FileRead) → file_read left ≡ Ok p → file_read right ≡ Ok q → Meant left right (filters_compared (filter_of p) (filter_of q))
filters_meant left right p q first second = by_answer (answered (filter_of p) (filter_of q)) refl
  where
    by_answer : (o : Result Report Declined) → answered (filter_of p) (filter_of q) ≡ o → Meant left right (filters_compared (filter_of p) (filter_of q))
    by_answer (Ok report) is =
        subst (λ o. Meant left right (listing_of o (regions_listed (filter_of p) (filter_of q)) (rows_listed (filter_of p) (filter_of q)) (holes_listed (filter_of p) (filter_of q)) (length p.0) (length q.0))) (sym is)
        (p, q, first, second, lists (filter_of p) (filter_of q) report is)
    by_answer (Err declined) is =
        subst (λ o. Meant left right (listing_of o (regions_listed (filter_of p) (filter_of q)) (rows_listed (filter_of p) (filter_of q)) (holes_listed (filter_of p) (filter_of q)) (length p.0) (length q.0))) (sym is)
        (p, q, first, second, declines (filter_of p) (filter_of q) declined is)

-- of two files, by whether each is read
pub files_meant : (left right : List ℕ) → Meant left right (files_compared left right)
files_meant left right = by_left (file_read left) refl
  where
    by_right : (p : FileRead) → file_read left ≡ Ok p → (r : Result FileRead Fault) → file_read right ≡ r → Meant left right (files_compared left right)
    by_right p first (Ok q) second = rw (first, second) (filters_meant left right p q first second)
    by_right p first (Err fault) second = rw (first, second) (p, first, second)

    by_left : (l : Result FileRead Fault) → file_read left ≡ l → Meant left right (files_compared left right)
    by_left (Ok p) first = by_right p first (file_read right) refl
    by_left (Err fault) first = rw first first
