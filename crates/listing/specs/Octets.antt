-- An octet in decimal, and the table of octets in three digits each.
use Rattle.std.specs.Prelude.{ℕ, ◌+◌, ◌/◌, ◌%◌, List, [], ◌∷◌, decimal}
use Rattle.std.specs.List.{range_with_len, flat_map}

-- no leading zeros
abbrev pub octet_text : ℕ → List ℕ
octet_text n = decimal n

abbrev pub three_digits : ℕ → List ℕ
three_digits n = (48 + n / 100) ∷ (48 + n / 10 % 10) ∷ (48 + n % 10) ∷ []

-- the table: entry n spells n in three digits
abbrev pub spelled_octets : List ℕ
spelled_octets = flat_map three_digits (range_with_len 0 256)
