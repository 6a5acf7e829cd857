-- The numbers of the reasons for which a comparison is declined.
use Rattle.std.specs.Prelude.{ℕ}
use Rattle.compare.specs.declared.reports.Declined.{Declined}
use Rattle.compare.specs.declared.reports.Declined.TheVariants.{TooManyAxes, NoRegionPlace, NoRowPlace, NoHolePlace}

abbrev pub number_of : Declined → ℕ
number_of TooManyAxes = 8
number_of NoRegionPlace = 9
number_of NoRowPlace = 10
number_of NoHolePlace = 11
