-- The one number that a host program is answered: below 65,536 where its request was done, else 65,536 plus the number
-- of the refusal.
use Rattle.std.specs.Prelude.{ℕ, ◌+◌, Ok, Err, Result}
use Rattle.fields.specs.declared.faults.Fault.{Fault}
use Rattle.fields.specs.Faults.{fault_number}
use Rattle.files.specs.declared.refusals.Unwritten.{Unwritten}
use Rattle.files.specs.Refusals.{unwritten_number}

-- the length of the listing that was written
abbrev pub compare_number : Result ℕ Unwritten → ℕ
compare_number (Ok length) = length
compare_number (Err unwritten) = 65536 + unwritten_number unwritten

-- 0 for a good file
abbrev pub check_number : Result (Unit {0}) Fault → ℕ
check_number (Ok good) = 0
check_number (Err fault) = 65536 + fault_number fault.kind
