-- Why two files give no listing: the numbers, and what the line of a refusal tells.
use Rattle.std.specs.Prelude.{ℕ}
use Rattle.fields.specs.Faults.{fault_number}
use Rattle.compare.specs.Declines.{number_of}
use Rattle.listing.specs.declared.declines.Declined.{Declined}
use Rattle.listing.specs.declared.declines.Declined.TheVariants.{Left as LeftLine, Right as RightLine, Comparison as ComparisonLine}
use Rattle.files.specs.declared.refusals.Refusal.{Refusal}
use Rattle.files.specs.declared.refusals.Refusal.TheVariants.{Left, Right, Comparison}
use Rattle.files.specs.declared.refusals.Unwritten.{Unwritten}
use Rattle.files.specs.declared.refusals.Unwritten.TheVariants.{Refused, TooLong}

abbrev pub refusal_number : Refusal → ℕ
refusal_number (Left fault) = fault_number fault.kind
refusal_number (Right fault) = fault_number fault.kind
refusal_number (Comparison declined) = number_of declined

abbrev pub unwritten_number : Unwritten → ℕ
unwritten_number (Refused refusal) = refusal_number refusal
unwritten_number TooLong = 19

-- the side, the number and the place of a fault, or the number of the comparison's reason
abbrev pub line_of : Refusal → Declined
line_of (Left fault) = LeftLine (fault_number fault.kind) fault.place
line_of (Right fault) = RightLine (fault_number fault.kind) fault.place
line_of (Comparison declined) = ComparisonLine (number_of declined)
