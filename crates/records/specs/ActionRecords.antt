-- The record of a route action: bit 0 accept, without a field; bit 1 the local preference, bit 2 the MED.
use Rattle.std.specs.Prelude.{ℕ, ◌+◌, ◌-◌, ◌*◌, ◌%◌, ◌^◌, ◌<◌, Bool, cond, ◌&&◌, ◌||◌, List, [], ◌∷◌, ◌++◌, Some, None, Ok, Option, ◌==◌, nat_lt}
use Rattle.supplied.specs.declared.actions.RouteAction.{RouteAction}
use Rattle.supplied.specs.declared.actions.RouteAction.TheVariants.{Reject, Accept}
use Rattle.records.specs.declared.actions.ActionNumbers.{ActionNumbers}
use Rattle.fields.specs.Fields.{field_of, bytes_of}
use Rattle.fields.specs.Layouts.{LayoutOf}
use Rattle.fields.specs.Reading.{Read, ◌>>=◌}

abbrev pub action_numbers : Option ℕ → Option ℕ → ActionNumbers
action_numbers preference med = record { preference = preference; med = med }

-- each number has four bytes, and any value of it counts
abbrev pub action_field : ActionNumbers → ℕ → List ℕ → Read ActionNumbers
action_field n place bytes = do
  (number, rest) ← field_of 4 bytes
  Ok (cond (place == 1) (action_numbers (Some number) n.med) (action_numbers n.preference (Some number)), rest)

abbrev pub is_accept : ℕ → Bool
is_accept map = map % 2 == 1

abbrev pub action_layout : LayoutOf ActionNumbers RouteAction
action_layout = record {
  absent = action_numbers None None;
  -- without accept the two numbers are undefined too
  defined = λ map. (map == 0) || (nat_lt map 8 && is_accept map);
  -- the accept bit has no field
  field_bits = λ map. map - map % 2;
  taken = action_field;
  made = λ map n. Ok (cond (is_accept map) (Accept n.preference n.med) Reject);
}

-- a number that may be absent: its bit in the map, its bytes, and that it fits them
abbrev pub number_bit : Option ℕ → ℕ
number_bit (Some n) = 1
number_bit None = 0

abbrev pub number_bytes : Option ℕ → List ℕ
number_bytes (Some n) = bytes_of 4 n
number_bytes None = []

abbrev pub NumberFits : Option ℕ → Type 0
NumberFits (Some n) = n < 2 ^ 32
NumberFits None = Unit {0}

-- the record of a route action: the map, then the numbers that are there
abbrev pub action_bytes : RouteAction → List ℕ
action_bytes Reject = 0 ∷ []
action_bytes (Accept preference med) =
    ((1 + 2 * number_bit preference + 4 * number_bit med) ∷ []) ++ number_bytes preference ++ number_bytes med

abbrev pub ActionFits : RouteAction → Type 0
ActionFits Reject = Unit {0}
ActionFits (Accept preference med) = NumberFits preference × NumberFits med
