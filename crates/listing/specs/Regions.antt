-- A region as text: dotted address, slash, prefix length, blank, low, hyphen, high.
use Rattle.std.specs.Prelude.{ℕ, zero, suc, ◌/◌, ◌%◌, ◌^◌, List, [], ◌∷◌, ◌++◌, codes}
use Rattle.supplied.specs.declared.ranges.PrefixRange.{PrefixRange}
use Rattle.listing.specs.Octets.{octet_text}

abbrev pub address_text : ℕ → List ℕ
address_text a =
    octet_text (a / 2 ^ 24 % 256) ++ codes "." ++ octet_text (a / 2 ^ 16 % 256) ++ codes "."
    ++ octet_text (a / 2 ^ 8 % 256) ++ codes "." ++ octet_text (a % 256)

abbrev pub region_text : PrefixRange → List ℕ
region_text r =
    address_text r.address ++ codes "/" ++ octet_text r.length ++ codes " "
    ++ octet_text r.low ++ codes "-" ++ octet_text r.high

-- the text of a region by its number in the list: nothing where the list has no such region
abbrev pub numbered_text : List PrefixRange → ℕ → List ℕ
numbered_text [] n = []
numbered_text (r ∷ rs) zero = region_text r
numbered_text (r ∷ rs) (suc n) = numbered_text rs n
