-- The text printed for two files is that of what comparing them gives.
use Rattle.std.proofs.Common.{◌≡◌, ℕ, List, length, Ok, Err, Result, refl}
use Rattle.family.specs.declared.clauses.Clause.{Clause}
use Rattle.supplied.specs.declared.actions.RouteAction.{RouteAction}
use Rattle.supplied.specs.declared.ranges.PrefixRange.{PrefixRange}
use Rattle.fields.specs.declared.faults.Fault.{Fault}
use Rattle.fields.specs.Reading.{◌>>=◌}
use Rattle.compare.specs.declared.reports.Declined.{Declined}
use Rattle.compare.specs.declared.reports.Report.{Report}
use Rattle.compare.specs.declared.rows.Row.{Row}
use Rattle.files.specs.declared.refusals.Refusal.TheVariants.{Left, Right}
use Rattle.files.specs.Compared.{Filter, file_read, filter_of, of_side, files_compared, regions_listed, rows_listed, holes_listed, answered, listing_of, filters_compared}
use Rattle.files.specs.Printed.{report_text, compared_text, right_text, left_text, printed_text, text_of}

reported_as : (o : Result Report Declined) (regions : List PrefixRange) (rows : List Row) (holes : List ℕ) (lefts rights : ℕ) → text_of (listing_of o regions rows holes lefts rights) ≡ report_text o regions rows holes lefts rights
reported_as (Ok report) regions rows holes lefts rights = refl
reported_as (Err declined) regions rows holes lefts rights = refl

compared_as : (left right : Filter) → text_of (filters_compared left right) ≡ compared_text left right
compared_as left right =
    reported_as (answered left right) (regions_listed left right) (rows_listed left right) (holes_listed left right) (length left.clauses) (length right.clauses)

right_as : (left : Filter) (r : Result (List (Clause PrefixRange RouteAction) × RouteAction) Fault) → text_of (◌>>=◌ (of_side Right r) (λ q. filters_compared left (filter_of q))) ≡ right_text left r
right_as left (Ok q) = compared_as left (filter_of q)
right_as left (Err fault) = refl

left_as : (l : Result (List (Clause PrefixRange RouteAction) × RouteAction) Fault) (right : List ℕ) → text_of (◌>>=◌ (of_side Left l) (λ p. ◌>>=◌ (of_side Right (file_read right)) (λ q. filters_compared (filter_of p) (filter_of q)))) ≡ left_text l right
left_as (Ok p) right = right_as (filter_of p) (file_read right)
left_as (Err fault) right = refl

pub printed_as : (left right : List ℕ) → text_of (files_compared left right) ≡ printed_text left right
printed_as left right = left_as (file_read left) right
