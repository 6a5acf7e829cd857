-- A reading that belongs to a part of a file.
use Rattle.std.proofs.Common.{◌≡◌, ℕ, List, Ok, Err, ap}
use Rattle.fields.specs.declared.faults.Part.{Part}
use Rattle.fields.specs.Reading.{Read}
use Rattle.fields.proofs.Inversion.{never-read}
use Rattle.filterfile.specs.Files.{in_part}

pub part_read : {X : Type 0} (total : ℕ) (part : Part) (r : Read X) (p : X × List ℕ) → in_part total part r ≡ Ok p → r ≡ Ok p
part_read total part (Ok q) p same = let both : q ≡ p = cc in ap Ok both
part_read total part (Err fault) p same = absurd (never-read same)
