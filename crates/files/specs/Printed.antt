-- What is printed for two files of prefix ranges with route actions.
use Rattle.std.specs.Prelude.{ℕ, List, length, take, Ok, Err, Result}
use Rattle.family.specs.declared.clauses.Clause.{Clause}
use Rattle.supplied.specs.declared.actions.RouteAction.{RouteAction}
use Rattle.supplied.specs.declared.ranges.PrefixRange.{PrefixRange}
use Rattle.fields.specs.declared.faults.Fault.{Fault}
use Rattle.fields.specs.Faults.{fault_number}
use Rattle.compare.specs.declared.reports.Declined.{Declined}
use Rattle.compare.specs.declared.reports.Report.{Report}
use Rattle.compare.specs.declared.rows.Row.{Row}
use Rattle.compare.specs.Declines.{number_of}
use Rattle.listing.specs.declared.declines.Declined.TheVariants.{Left, Right, Comparison}
use Rattle.listing.specs.Declines.{declined_text}
use Rattle.listing.specs.Listings.{listing}
use Rattle.files.specs.declared.refusals.Refusal.{Refusal}
use Rattle.files.specs.Compared.{Filter, file_read, filter_of, regions_listed, rows_listed, holes_listed, answered}
use Rattle.files.specs.Refusals.{line_of}

-- the text of a report on what stands in the three buffers
abbrev pub report_text : Result Report Declined → List PrefixRange → List Row → List ℕ → ℕ → ℕ → List ℕ
report_text (Ok report) regions rows holes lefts rights = listing (take report.regions regions) (take report.rows rows) (take report.holes holes) lefts rights
report_text (Err declined) regions rows holes lefts rights = declined_text (Comparison (number_of declined))

-- the text of a comparison: its listing, or the line of one that is declined
abbrev pub compared_text : Filter → Filter → List ℕ
compared_text left right = report_text (answered left right) (regions_listed left right) (rows_listed left right) (holes_listed left right) (length left.clauses) (length right.clauses)

-- the left file is read first, then the right one, then they are compared
abbrev pub right_text : Filter → Result (List (Clause PrefixRange RouteAction) × RouteAction) Fault → List ℕ
right_text left (Ok q) = compared_text left (filter_of q)
right_text left (Err fault) = declined_text (Right (fault_number fault.kind) fault.place)

abbrev pub left_text : Result (List (Clause PrefixRange RouteAction) × RouteAction) Fault → List ℕ → List ℕ
left_text (Ok p) right = right_text (filter_of p) (file_read right)
left_text (Err fault) right = declined_text (Left (fault_number fault.kind) fault.place)

abbrev pub printed_text : List ℕ → List ℕ → List ℕ
printed_text left right = left_text (file_read left) right

-- the text of a listing, or the line of the refusal
abbrev pub text_of : Result (List ℕ) Refusal → List ℕ
text_of (Ok text) = text
text_of (Err refusal) = declined_text (line_of refusal)
