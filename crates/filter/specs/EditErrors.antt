-- The numbers of the reasons for which an edit is refused.
use Rattle.std.specs.Prelude.{ℕ}
use Rattle.filter.specs.declared.errors.EditError.{EditError}
use Rattle.filter.specs.declared.errors.EditError.TheVariants.{NoSuchPlace, NoPlaceLeft}

abbrev pub number_of : EditError → ℕ
number_of NoSuchPlace = 6
number_of NoPlaceLeft = 7
