-- How many bytes a record takes, told of its map.
use Rattle.std.specs.Prelude.{◌≡◌, ℕ, ◌+◌, List, length, Ok, Err, slice_index}
use Rattle.fields.specs.Reading.{Read}

-- what was read took as many bytes as the map in front of them says
abbrev pub TookBytes : {X : Type 0} → (ℕ → ℕ) → List ℕ → Read X → Type 0
TookBytes size bytes (Ok p) = length bytes ≡ size (slice_index bytes 0) + length p.1
TookBytes size bytes (Err fault) = Unit {0}
