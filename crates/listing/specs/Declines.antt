-- The line that is printed where a load or the comparison is declined.
use Rattle.std.specs.Prelude.{ℕ, List, ◌++◌, codes, decimal}
use Rattle.listing.specs.declared.declines.Declined.{Declined}
use Rattle.listing.specs.declared.declines.Declined.TheVariants.{Left, Right, Comparison}

-- the refusal's number and the place of the fault
abbrev pub fault_text : ℕ → ℕ → List ℕ
fault_text number place = decimal number ++ codes " " ++ decimal place ++ codes "\n"

unfoldable pub declined_text : Declined → List ℕ
declined_text (Left number place) = codes "left " ++ fault_text number place
declined_text (Right number place) = codes "right " ++ fault_text number place
declined_text (Comparison number) = codes "compare " ++ decimal number ++ codes "\n"
