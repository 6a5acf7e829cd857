-- The number of each reason for which a region or a point is not made.
use Rattle.std.specs.Prelude.{ℕ}
use Rattle.supplied.specs.declared.errors.MakeError.{MakeError}
use Rattle.supplied.specs.declared.errors.MakeError.TheVariants.{LengthAboveWidth, AddressBitAfterLength, LengthsOutOfOrder, LowAboveHigh, AboveTop}

abbrev pub number_of : MakeError → ℕ
number_of LengthAboveWidth = 1
number_of AddressBitAfterLength = 2
number_of LengthsOutOfOrder = 3
number_of LowAboveHigh = 4
number_of AboveTop = 5
