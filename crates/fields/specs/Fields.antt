-- A field of a record: a number in a fixed number of bytes, highest byte first.
use Rattle.std.specs.Prelude.{ℕ, zero, suc, ◌+◌, ◌*◌, ◌/◌, ◌%◌, ◌<◌, Bool, cond, not, List, [], ◌∷◌, ◌++◌, Ok, Err, ◌==◌}
use Rattle.fields.specs.declared.faults.FaultKind.TheVariants.{AbsentValue}
use Rattle.fields.specs.Faults.{fault_at, ends_early}
use Rattle.fields.specs.Reading.{Read, ◌>>=◌}

-- the number that goes on from n through the next bytes, and the bytes behind them
abbrev pub spelled : ℕ → ℕ → List ℕ → Read ℕ
spelled zero n bytes = Ok (n, bytes)
spelled (suc width) n [] = Err ends_early
spelled (suc width) n (b ∷ bytes) = spelled width (n * 256 + b) bytes

-- the field at the front of the bytes
abbrev pub field_of : ℕ → List ℕ → Read ℕ
field_of width bytes = spelled width 0 bytes

-- a field that must not equal its absent value
abbrev pub given_of : ℕ → ℕ → List ℕ → Read ℕ
given_of width absent bytes = do
  (value, rest) ← field_of width bytes
  cond (value == absent) (Err (fault_at AbsentValue bytes)) (Ok (value, rest))

-- the bytes of a number, the last of which is its remainder
abbrev pub bytes_of : ℕ → ℕ → List ℕ
bytes_of zero n = []
bytes_of (suc width) n = bytes_of width (n / 256) ++ (n % 256 ∷ [])

-- a field is written where it differs from its absent value, and left out where it equals it
abbrev pub is_given : ℕ → ℕ → Bool
is_given absent value = not (value == absent)

abbrev pub given_bytes : ℕ → ℕ → ℕ → List ℕ
given_bytes width absent value = cond (is_given absent value) (bytes_of width value) []

-- the field's bit in the map
abbrev pub given_bit : ℕ → ℕ → ℕ
given_bit absent value = cond (is_given absent value) 1 0

-- numbers that are bytes
abbrev pub Octets : List ℕ → Type 0
Octets [] = Unit {0}
Octets (b ∷ bytes) = (b < 256) × Octets bytes
