-- What comparing two files of prefix ranges with route actions gives: the listing, or the first refusal.
use Rattle.std.specs.Prelude.{◌≡◌, ℕ, List, length, take, Ok, Err, Result}
use Rattle.family.specs.declared.clauses.Clause.{Clause}
use Rattle.supplied.specs.declared.actions.RouteAction.{RouteAction}
use Rattle.supplied.specs.declared.ranges.PrefixRange.{PrefixRange}
use Rattle.supplied.specs.Actions.{same_action}
use Rattle.supplied.specs.PrefixRanges.{whole_prefix, first_of_routes, prefix_holds, prefix_inside, prefix_meet, route_shifted}
use Rattle.fields.specs.declared.faults.Fault.{Fault}
use Rattle.fields.specs.Layouts.{record_of}
use Rattle.fields.specs.Reading.{◌>>=◌}
use Rattle.records.specs.ActionRecords.{action_layout}
use Rattle.records.specs.RangeRecords.{range_layout}
use Rattle.filterfile.specs.Files.{file_of}
use Rattle.filter.specs.Views.{View}
use Rattle.compare.specs.declared.reports.Declined.{Declined}
use Rattle.compare.specs.declared.reports.Report.{Report}
use Rattle.compare.specs.declared.rows.Row.{Row}
use Rattle.compare.specs.Compared.{list_for, rows_in, holes_in, outcome}
use Rattle.listing.specs.declared.listings.Listing.{Listing}
use Rattle.listing.specs.Listings.{listing}
use Rattle.files.specs.declared.refusals.Refusal.{Refusal}
use Rattle.files.specs.declared.refusals.Refusal.TheVariants.{Left, Right, Comparison}

-- a filter of prefix ranges with route actions
abbrev pub Filter : Type 0
Filter = View PrefixRange RouteAction

-- a side has places for 64 clauses and a default
abbrev pub file_read : List ℕ → Result (List (Clause PrefixRange RouteAction) × RouteAction) Fault
file_read bytes = file_of (record_of range_layout) (record_of action_layout) 1 65 bytes

abbrev pub filter_of : List (Clause PrefixRange RouteAction) × RouteAction → Filter
filter_of p = record { clauses = p.0; default = p.1; room = 65 }

-- a file that is read as this filter
abbrev pub ReadAs : List ℕ → Filter → Type 0
ReadAs bytes filter =
    (p : List (Clause PrefixRange RouteAction) × RouteAction) × (file_read bytes ≡ Ok p) × (filter ≡ filter_of p)

-- the comparison has 1,024 region places, 1,024 row places and 4,096 hole places
module _ (left right : Filter) where
  abbrev pub regions_listed : List PrefixRange
  regions_listed = list_for whole_prefix first_of_routes 2 prefix_holds prefix_inside prefix_meet route_shifted same_action left right 1024

  abbrev pub rows_listed : List Row
  rows_listed = rows_in whole_prefix first_of_routes 2 prefix_holds prefix_inside prefix_meet route_shifted same_action left right regions_listed

  abbrev pub holes_listed : List ℕ
  holes_listed = holes_in whole_prefix first_of_routes 2 prefix_holds prefix_inside prefix_meet route_shifted same_action left right regions_listed

  abbrev pub answered : Result Report Declined
  answered = outcome whole_prefix first_of_routes 2 prefix_holds prefix_inside prefix_meet route_shifted same_action left right 1024 1024 4096

-- the listing of a report on what stands in the three buffers, with the numbers of clauses of the two sides
abbrev pub listing_of : Result Report Declined → List PrefixRange → List Row → List ℕ → ℕ → ℕ → Result (List ℕ) Refusal
listing_of (Ok report) regions rows holes lefts rights =
    Ok (listing (take report.regions regions) (take report.rows rows) (take report.holes holes) lefts rights)
listing_of (Err declined) regions rows holes lefts rights = Err (Comparison declined)

abbrev pub filters_compared : Filter → Filter → Result (List ℕ) Refusal
filters_compared left right =
    listing_of (answered left right) (regions_listed left right) (rows_listed left right) (holes_listed left right)
    (length left.clauses) (length right.clauses)

-- the text of a listing that was found
abbrev pub text_found : Result Listing Refusal → Result (List ℕ) Refusal
text_found (Ok l) = Ok (listing l.regions.now l.rows.now l.holes.now l.left_clauses l.right_clauses)
text_found (Err refusal) = Err refusal

-- a file that was read, or its fault as that of its side
abbrev pub of_side : {X : Type 0} → (Fault → Refusal) → Result X Fault → Result X Refusal
of_side side (Ok x) = Ok x
of_side side (Err fault) = Err (side fault)

-- the left file is read first, then the right one, then they are compared
abbrev pub files_compared : List ℕ → List ℕ → Result (List ℕ) Refusal
files_compared left right = do
  p ← of_side Left (file_read left)
  q ← of_side Right (file_read right)
  filters_compared (filter_of p) (filter_of q)
