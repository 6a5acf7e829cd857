-- Records of any kind: a map byte, the fields that it announces, and what they make.
use Rattle.std.specs.Prelude.{ℕ, zero, suc, ◌+◌, ◌/◌, ◌%◌, Bool, cond, List, [], ◌∷◌, Ok, Err, Result, ◌==◌}
use Rattle.supplied.specs.declared.errors.MakeError.{MakeError}
use Rattle.fields.specs.declared.faults.FaultKind.TheVariants.{UndefinedBit, BrokenRule}
use Rattle.fields.specs.Faults.{fault_at}
use Rattle.fields.specs.Fields.{field_of}
use Rattle.fields.specs.Reading.{Read, ◌>>=◌}

-- how a kind of record is laid out, with N the numbers of its fields and X what they make
pub record LayoutOf (N X : Type 0) : Type 0 where
  -- the numbers when no field is there
  pub absent : N
  -- whether each bit of the map is defined
  pub defined : ℕ → Bool
  -- the bits of the map that stand for a field
  pub field_bits : ℕ → ℕ
  -- the field of a bit, read into the numbers
  pub taken : N → ℕ → List ℕ → Read N
  -- what the map and the numbers make, or the rule that they break
  pub made : ℕ → N → Result X MakeError

-- the places of the ones among some bits, of which the lowest has the given place
unfoldable pub places_from : ℕ → ℕ → ℕ → List ℕ
places_from zero place bits = []
places_from (suc width) place bits =
    cond (bits % 2 == 1) (place ∷ places_from width (place + 1) (bits / 2)) (places_from width (place + 1) (bits / 2))

-- the places of a map's ones, in bit order, bit 0 the lowest
unfoldable pub places_of : ℕ → List ℕ
places_of map = places_from 8 0 map

-- one field for each place, one after the other
abbrev pub fields_of : {N : Type 0} → (N → ℕ → List ℕ → Read N) → List ℕ → N → List ℕ → Read N
fields_of taken [] numbers bytes = Ok (numbers, bytes)
fields_of taken (place ∷ places) numbers bytes = do
  (more, rest) ← taken numbers place bytes
  fields_of taken places more rest

-- a map without an undefined bit, and the numbers of its fields
abbrev pub numbers_of : {N X : Type 0} → LayoutOf N X → List ℕ → Read (ℕ × N)
numbers_of layout bytes = do
  (map, rest) ← field_of 1 bytes
  cond (layout.defined map) (do
    (numbers, behind) ← fields_of layout.taken (places_of (layout.field_bits map)) layout.absent rest
    Ok ((map, numbers), behind)) (Err (fault_at UndefinedBit bytes))

-- what the numbers make, or the rule that they break, told at the record's map
abbrev pub made_of : {X : Type 0} → Result X MakeError → List ℕ → List ℕ → Read X
made_of (Ok x) bytes rest = Ok (x, rest)
made_of (Err cause) bytes rest = Err (fault_at (BrokenRule cause) bytes)

-- first the map is tested, then each field is read, then the record is made
abbrev pub record_of : {N X : Type 0} → LayoutOf N X → List ℕ → Read X
record_of layout bytes = do
  (told, rest) ← numbers_of layout bytes
  made_of (layout.made told.0 told.1) bytes rest
