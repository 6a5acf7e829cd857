-- The listing read off the three buffers is that of the comparison.
use Rattle.std.proofs.Common.{◌≡◌, ℕ, ◌≤◌, List, ◌++◌, length, take, drop, Ok, Err, Result, sym, refl, ap, ◌∙◌, arith}
use Rattle.std.proofs.lemmas.List.{take_all}
use Rattle.family.specs.declared.clauses.Clause.{Clause}
use Rattle.supplied.specs.declared.actions.RouteAction.{RouteAction}
use Rattle.supplied.specs.declared.ranges.PrefixRange.{PrefixRange}
use Rattle.supplied.specs.Actions.{same_action}
use Rattle.supplied.specs.PrefixRanges.{whole_prefix, first_of_routes, prefix_holds, prefix_inside, prefix_meet, route_shifted}
use Rattle.fields.specs.declared.faults.Fault.{Fault}
use Rattle.fields.specs.Layouts.{record_of}
use Rattle.records.specs.ActionRecords.{action_layout}
use Rattle.records.specs.RangeRecords.{range_layout}
use Rattle.filterfile.specs.Files.{file_of}
use Rattle.filter.specs.Views.{loaded_view, load_answer}
use Rattle.compare.specs.declared.reports.Declined.{Declined}
use Rattle.compare.specs.declared.reports.Report.{Report}
use Rattle.compare.specs.declared.rows.Row.{Row}
use Rattle.compare.specs.Compared.{used_places, front_of, unless_declined, list_for, rows_in, holes_in, outcome, regions_after}
use Rattle.compare.proofs.AnsweredRightly.{front_back, used_back}
use Rattle.compare.proofs.Outcomes.{report_told}
use Rattle.listing.specs.Listings.{listing}
use Rattle.files.specs.declared.refusals.Refusal.{Refusal}
use Rattle.files.specs.declared.refusals.Refusal.TheVariants.{Comparison}
use Rattle.files.specs.Compared.{Filter, file_read, filter_of, ReadAs, files_compared, regions_listed, rows_listed, holes_listed, answered, listing_of, filters_compared}

-- as much of a list at the front as is read back
read_front : {X : Type 0} (xs old : List X) (n : ℕ) → n ≡ length xs → take n (xs ++ drop (length xs) old) ≡ take n xs
read_front xs old n e = front_back xs old n e ∙ sym (take_all n xs (omega arith))

read_used : {X : Type 0} (places : ℕ) (xs old : List X) (n : ℕ) → n ≡ length xs → length xs ≤ places → take n (front_of places xs old) ≡ take n xs
read_used places xs old n e fits = used_back places xs old n e fits ∙ sym (take_all n xs (omega arith))

module _ (left right : Filter) (old : List PrefixRange) (old-rows : List Row) (old-holes : List ℕ) (lefts rights : ℕ) where
  pub shown : (o : Result Report Declined) → o ≡ answered left right → listing_of o (front_of 1024 (regions_listed left right) old) (unless_declined o (rows_listed left right) old-rows) (unless_declined o (holes_listed left right) old-holes) lefts rights ≡ listing_of (answered left right) (regions_listed left right) (rows_listed left right) (holes_listed left right) lefts rights
  shown (Ok report) e =
      let xs = regions_listed left right in
      let rows = rows_listed left right in
      let holes = holes_listed left right in
      let told = report_told whole_prefix first_of_routes 2 prefix_holds prefix_inside prefix_meet route_shifted same_action left right 1024 1024 4096 report (sym e) in
      ap (λ l. Ok (listing l (take report.rows (rows ++ drop (length rows) old-rows)) (take report.holes (holes ++ drop (length holes) old-holes)) lefts rights)) (read_used 1024 xs old report.regions told.regions_told told.regions_fit)
      ∙ ap (λ l. Ok (listing (take report.regions xs) l (take report.holes (holes ++ drop (length holes) old-holes)) lefts rights)) (read_front rows old-rows report.rows told.rows_told)
      ∙ ap (λ l. Ok (listing (take report.regions xs) (take report.rows rows) l lefts rights)) (read_front holes old-holes report.holes told.holes-told)
      ∙ ap (λ o. listing_of o xs rows holes lefts rights) e
  shown (Err declined) e = ap (λ o. listing_of o (regions_listed left right) (rows_listed left right) (holes_listed left right) lefts rights) e

-- the same from what the comparison ensures of buffers of these sizes
pub shown_after : (left right : Filter) (old regions : List PrefixRange) (old-rows rows : List Row) (old-holes holes : List ℕ) (lefts rights : ℕ) (o : Result Report Declined) → length old ≡ 1024 → length old-rows ≡ 1024 → length old-holes ≡ 4096 → o ≡ outcome whole_prefix first_of_routes 2 prefix_holds prefix_inside prefix_meet route_shifted same_action left right (length old) (length old-rows) (length old-holes) → regions ≡ regions_after whole_prefix first_of_routes 2 prefix_holds prefix_inside prefix_meet route_shifted same_action left right old → rows ≡ unless_declined o (rows_in whole_prefix first_of_routes 2 prefix_holds prefix_inside prefix_meet route_shifted same_action left right (list_for whole_prefix first_of_routes 2 prefix_holds prefix_inside prefix_meet route_shifted same_action left right (length old))) old-rows → holes ≡ unless_declined o (holes_in whole_prefix first_of_routes 2 prefix_holds prefix_inside prefix_meet route_shifted same_action left right (list_for whole_prefix first_of_routes 2 prefix_holds prefix_inside prefix_meet route_shifted same_action left right (length old))) old-holes → lefts ≡ length left.clauses → rights ≡ length right.clauses → listing_of o regions rows holes lefts rights ≡ filters_compared left right
shown_after left right old regions old-rows rows old-holes holes lefts rights o n k m outcome-is regions-are rows_are holes-are lefts-are rights-are =
    let told : o ≡ answered left right =
    outcome-is
    ∙ ap (λ x. outcome whole_prefix first_of_routes 2 prefix_holds prefix_inside prefix_meet route_shifted same_action left right x (length old-rows) (length old-holes)) n
    ∙ ap (λ x. outcome whole_prefix first_of_routes 2 prefix_holds prefix_inside prefix_meet route_shifted same_action left right 1024 x (length old-holes)) k
    ∙ ap (λ x. outcome whole_prefix first_of_routes 2 prefix_holds prefix_inside prefix_meet route_shifted same_action left right 1024 1024 x) m in
    let front : regions ≡ front_of 1024 (regions_listed left right) old =
    regions-are ∙ ap (λ x. front_of (used_places x) (list_for whole_prefix first_of_routes 2 prefix_holds prefix_inside prefix_meet route_shifted same_action left right x) old) n in
    let their-rows : rows ≡ unless_declined o (rows_listed left right) old-rows =
    rows_are ∙ ap (λ x. unless_declined o (rows_in whole_prefix first_of_routes 2 prefix_holds prefix_inside prefix_meet route_shifted same_action left right (list_for whole_prefix first_of_routes 2 prefix_holds prefix_inside prefix_meet route_shifted same_action left right x)) old-rows) n in
    let their-holes : holes ≡ unless_declined o (holes_listed left right) old-holes =
    holes-are ∙ ap (λ x. unless_declined o (holes_in whole_prefix first_of_routes 2 prefix_holds prefix_inside prefix_meet route_shifted same_action left right (list_for whole_prefix first_of_routes 2 prefix_holds prefix_inside prefix_meet route_shifted same_action left right x)) old-holes) n in
    ap (λ x. listing_of o x rows holes lefts rights) front
    ∙ ap (λ x. listing_of o (front_of 1024 (regions_listed left right) old) x holes lefts rights) their-rows
    ∙ ap (λ x. listing_of o (front_of 1024 (regions_listed left right) old) (unless_declined o (rows_listed left right) old-rows) x lefts rights) their-holes
    ∙ ap (λ x. listing_of o (front_of 1024 (regions_listed left right) old) (unless_declined o (rows_listed left right) old-rows) (unless_declined o (holes_listed left right) old-holes) x rights) lefts-are
    ∙ ap (λ x. listing_of o (front_of 1024 (regions_listed left right) old) (unless_declined o (rows_listed left right) old-rows) (unless_declined o (holes_listed left right) old-holes) (length left.clauses) x) rights-are
    ∙ shown left right old old-rows old-holes (length left.clauses) (length right.clauses) o told

-- the same of what `map_err` and `?` make of its answer
pub told_report : {o : Result Report Declined} {report : Report} (left right : Filter) (regions : List PrefixRange) (rows : List Row) (holes : List ℕ) (lefts rights : ℕ) → o ≡ Ok report → listing_of o regions rows holes lefts rights ≡ filters_compared left right → listing_of (Ok report) regions rows holes lefts rights ≡ filters_compared left right
told_report left right regions rows holes lefts rights e shown =
    ap (λ o. listing_of o regions rows holes lefts rights) (sym e) ∙ shown

pub told_declined : {o : Result Report Declined} {t : Result (List ℕ) Refusal} (left right : Filter) (regions : List PrefixRange) (rows : List Row) (holes : List ℕ) (lefts rights : ℕ) → (d : Declined) × (o ≡ Err d) × (t ≡ Err (Comparison d)) → listing_of o regions rows holes lefts rights ≡ filters_compared left right → t ≡ filters_compared left right
told_declined left right regions rows holes lefts rights (d, e, f) shown =
    f ∙ ap (λ o. listing_of o regions rows holes lefts rights) (sym e) ∙ shown

-- a file that is loaded into 65 places is read as the filter that is then there
module _ (bytes : List ℕ) (places : ℕ) (room : places ≡ 65) where
  abbrev loaded : Result (List (Clause PrefixRange RouteAction) × RouteAction) Fault
  loaded = file_of (record_of range_layout) (record_of action_layout) 1 places bytes

  is_file : loaded ≡ file_read bytes
  is_file = ap (λ n. file_of (record_of range_layout) (record_of action_layout) 1 n bytes) room

  pub load_read : (u : Unit {0}) (before after : Filter) → Ok u ≡ load_answer loaded → before.room ≡ 65 → after ≡ loaded_view before loaded → ReadAs bytes after
  load_read u before after e size is = read loaded refl e is
    where
      read : (r : Result (List (Clause PrefixRange RouteAction) × RouteAction) Fault) → loaded ≡ r → Ok u ≡ load_answer r → after ≡ loaded_view before r → ReadAs bytes after
      read (Ok p) same e is = (p, sym is_file ∙ same, is ∙ ap (λ n. record { clauses = p.0; default = p.1; room = n }) size)
      read (Err fault) same e is = cc

-- what two files give that are both read
pub both_read : (left right : List ℕ) (l r : Filter) → ReadAs left l → ReadAs right r → filters_compared l r ≡ files_compared left right
both_read left right l r (p, d, l-is) (q, e, r-is) =
    rw (d, e) (ap (λ v. filters_compared v r) l-is ∙ ap (filters_compared (filter_of p)) r-is)
