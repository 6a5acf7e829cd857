-- The record of a prefix range: bit 0 the address, bit 1 the prefix length, bit 2 low, bit 3 high.
use Rattle.std.specs.Prelude.{ℕ, ◌+◌, ◌*◌, cond, List, [], ◌∷◌, ◌++◌, Ok, ◌==◌, nat_lt}
use Rattle.supplied.specs.MadeRanges.{made_range}
use Rattle.supplied.specs.declared.ranges.PrefixRange.{PrefixRange}
use Rattle.records.specs.declared.ranges.RangeNumbers.{RangeNumbers}
use Rattle.fields.specs.Fields.{given_of, given_bytes, given_bit}
use Rattle.fields.specs.Layouts.{LayoutOf}
use Rattle.fields.specs.Reading.{Read, ◌>>=◌}

abbrev pub range_numbers : ℕ → ℕ → ℕ → ℕ → RangeNumbers
range_numbers address length low high = record { address = address; length = length; low = low; high = high }

-- An address has four bytes and a length one. What stands before a field is read is its absent value:
-- 0 for the address and the prefix length, the prefix length for low, and low for high.
abbrev pub range_field : RangeNumbers → ℕ → List ℕ → Read RangeNumbers
range_field n place bytes =
    cond (place == 0) (do
      (address, rest) ← given_of 4 n.address bytes
      Ok (range_numbers address n.length n.low n.high, rest))
    (cond (place == 1) (do
      (length, rest) ← given_of 1 n.length bytes
      Ok (range_numbers n.address length length length, rest))
    (cond (place == 2) (do
      (low, rest) ← given_of 1 n.low bytes
      Ok (range_numbers n.address n.length low low, rest))
    (do
      (high, rest) ← given_of 1 n.high bytes
      Ok (range_numbers n.address n.length n.low high, rest))))

abbrev pub range_layout : LayoutOf RangeNumbers PrefixRange
range_layout = record {
  absent = range_numbers 0 0 0 0;
  defined = λ map. nat_lt map 16;
  field_bits = λ map. map;
  taken = range_field;
  made = λ map n. made_range n.address n.length n.low n.high;
}

-- a bit for each field that differs from its absent value
abbrev pub range_map : PrefixRange → ℕ
range_map r = given_bit 0 r.address + 2 * given_bit 0 r.length + 4 * given_bit r.length r.low + 8 * given_bit r.low r.high

-- the record of a prefix range: the map, then the fields that differ from their absent values
abbrev pub range_bytes : PrefixRange → List ℕ
range_bytes r =
    (range_map r ∷ []) ++ given_bytes 4 0 r.address ++ given_bytes 1 0 r.length ++ given_bytes 1 r.length r.low ++ given_bytes 1 r.low r.high
