-- Writing and reading a record undo each other.
use Rattle.std.specs.Prelude.{◌≡◌, ℕ, List, ◌++◌, Ok}
use Rattle.fields.specs.Fields.{Octets}
use Rattle.fields.specs.Reading.{Read}

-- what a kind of record owes, by what is read from bytes, what is written, and the values whose numbers fit their fields
pub record RecordLaws {X : Type 0} (fits : X → Type 0) (reads : List ℕ → Read X) (writes : X → List ℕ) : Type 0 where
  -- what is written is read back, whatever stands behind it
  pub read_back : (x : X) → fits x → (rest : List ℕ) → reads (writes x ++ rest) ≡ Ok (x, rest)
  -- what is read is written back, byte for byte
  pub written_back : (bytes : List ℕ) → Octets bytes → (x : X) (rest : List ℕ) → reads bytes ≡ Ok (x, rest) → bytes ≡ writes x ++ rest
