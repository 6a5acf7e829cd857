-- A listing says that there is no row exactly where there is none.
use Rattle.std.proofs.Common.{◌≡◌, ℕ, ◌^◌, ◌<◌, ◌↔◌, List, [], ◌∷◌, ◌++◌, length, get_or, codes, decimal, sym, refl, ap, ◌∙◌, inl, inr, arith}
use Rattle.std.proofs.lemmas.Fmt.{decimal_nonempty, first_decimal}
use Rattle.std.proofs.lemmas.List.{nil_from_length}
use Rattle.std.proofs.lemmas.Bool.{cases_lt}
use Rattle.std.specs.List.{flat_map}
use Rattle.std.specs.Fmt.{digits}
use Rattle.supplied.specs.declared.ranges.PrefixRange.{PrefixRange}
use Rattle.compare.specs.declared.rows.Row.{Row}
use Rattle.listing.specs.Listings.{listing, row_text}

first_of : (front behind : List ℕ) → 0 < length front → get_or (front ++ behind) 0 0 ≡ get_or front 0 0
first_of [] behind some = absurd (omega arith)
first_of (b ∷ front) behind some = refl

module _ (regions : List PrefixRange) (holes : List ℕ) (lefts rights : ℕ) where
  -- the byte behind "rows " is the first digit of the number of rows
  digit : (rows : List Row) → length rows < 2 ^ 64 → get_or (listing regions rows holes lefts rights) 5 0 ≡ get_or (decimal (length rows)) 0 0
  unfolding listing
  digit rows small =
      let some = decimal_nonempty (length rows) small in
      let number = decimal (length rows) in
      let lines = flat_map (row_text regions holes lefts rights) rows in
      first_of (number ++ codes "\n") lines (longer number (codes "\n") some) ∙ first_of number (codes "\n") some
    where
      longer : (a b : List ℕ) → 0 < length a → 0 < length (a ++ b)
      longer [] b h = absurd (omega arith)
      longer (x ∷ a) b h = omega arith

  none-listed : listing regions [] holes lefts rights ≡ codes "rows 0\n"
  unfolding listing digits
  none-listed = refl

  pub no_rows : (rows : List Row) → length rows < 2 ^ 64 → (listing regions rows holes lefts rights ≡ codes "rows 0\n") ↔ (length rows ≡ 0)
  no_rows rows small = (forth, back)
    where
      forth : listing regions rows holes lefts rights ≡ codes "rows 0\n" → length rows ≡ 0
      forth is =
          elim (cases_lt 0 (length rows)) [
            | inl some ↦
                let zero-digit : get_or (decimal (length rows)) 0 0 ≡ 48 = sym (digit rows small) ∙ ap (λ l. get_or l 5 0) is in
                absurd (omega (arith, first_decimal (length rows) some small))
            | inr none ↦ omega arith
          ]

      back : length rows ≡ 0 → listing regions rows holes lefts rights ≡ codes "rows 0\n"
      back none = ap (λ l. listing regions l holes lefts rights) (nil_from_length rows none) ∙ none-listed
