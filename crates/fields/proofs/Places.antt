-- The places of a map's ones: how many there are, and the lowest taken off.
use Rattle.std.proofs.Common.{◌≡◌, ℕ, zero, suc, ◌+◌, ◌-◌, ◌*◌, ◌/◌, ◌%◌, ◌^◌, ◌<◌, ◌⊎◌, ◌∷◌, length, ap, ◌∙◌, ⊎_elim, add-zero, pow-suc, zero-add, arith}
use lib.Bits.{bit_and, and_step, and_self, and_le_l}
use lib.Count.{ones, ones_step, count_trailing_zeros}
use Rattle.fields.specs.Layouts.{places_from, places_of}

pub parity : (a : ℕ) → (a % 2 ≡ 1) ⊎ (a % 2 ≡ 0)
parity a = grind arith

half-below : (w a : ℕ) → a < 2 ^ suc w → a / 2 < 2 ^ w
half-below w a h = let double = pow-suc 2 w in omega arith

-- the places at a map whose lowest bit is known
pub at_odd : (w p a : ℕ) → a % 2 ≡ 1 → places_from (suc w) p a ≡ p ∷ places_from w (p + 1) (a / 2)
unfolding places_from
at_odd w p a odd = rw odd

pub at_even : (w p a : ℕ) → a % 2 ≡ 0 → places_from (suc w) p a ≡ places_from w (p + 1) (a / 2)
unfolding places_from
at_even w p a even = rw even

-- as many places as ones
pub count_places : (w p a : ℕ) → a < 2 ^ w → length (places_from w p a) ≡ ones a
unfolding ones places_from
count_places zero p a h = let none : a ≡ 0 = omega arith in rw none
count_places (suc w) p a h =
    let rest = count_places w (p + 1) (a / 2) (half-below w a h) in
    ⊎_elim (λ odd. ap length (at_odd w p a odd) ∙ omega (arith, ones_step a))
    (λ even. ap length (at_even w p a even) ∙ omega (arith, ones_step a)) (parity a)

-- the number whose lowest one is taken off
odd_off : (a : ℕ) → a % 2 ≡ 1 → bit_and a (a - 1) ≡ a - 1
odd_off a odd =
    let halves : (a - 1) / 2 ≡ a / 2 = omega arith in
    let low : (a - 1) % 2 ≡ 0 = omega arith in
    and_step a (a - 1) ∙ rw (halves, low, and_self, odd) (omega arith)

even_off : (a : ℕ) → 0 < a → a % 2 ≡ 0 → bit_and a (a - 1) ≡ bit_and (a / 2) (a / 2 - 1) * 2
even_off a pos even =
    let halves : (a - 1) / 2 ≡ a / 2 - 1 = omega arith in
    and_step a (a - 1) ∙ rw (halves, even) (omega arith)

-- the lowest one's place, and the places of the others
pub lowest_place : (w p a : ℕ) → 0 < a → a < 2 ^ w → places_from w p a ≡ (p + count_trailing_zeros w a) ∷ places_from w p (bit_and a (a - 1))
unfolding count_trailing_zeros places_from
lowest_place zero p a pos h = absurd (omega arith)
lowest_place (suc w) p a pos h =
    ⊎_elim first (λ even. later even (lowest_place w (p + 1) (a / 2) (omega arith) (half-below w a h))) (parity a)
  where
    first : a % 2 ≡ 1 → places_from (suc w) p a ≡ (p + count_trailing_zeros (suc w) a) ∷ places_from (suc w) p (bit_and a (a - 1))
    first odd =
        let off = odd_off a odd in
        let low : (a - 1) % 2 ≡ 0 = omega arith in
        let halves : (a - 1) / 2 ≡ a / 2 = omega arith in
        at_odd w p a odd ∙ rw (off, odd, low, halves, add-zero)

    later : a % 2 ≡ 0 → places_from w (p + 1) (a / 2) ≡ (p + 1 + count_trailing_zeros w (a / 2)) ∷ places_from w (p + 1) (bit_and (a / 2) (a / 2 - 1)) → places_from (suc w) p a ≡ (p + count_trailing_zeros (suc w) a) ∷ places_from (suc w) p (bit_and a (a - 1))
    later even rest =
        let off = even_off a pos even in
        let low : bit_and (a / 2) (a / 2 - 1) * 2 % 2 ≡ 0 = omega arith in
        let halves : bit_and (a / 2) (a / 2 - 1) * 2 / 2 ≡ bit_and (a / 2) (a / 2 - 1) = omega arith in
        let up : p + 1 + count_trailing_zeros w (a / 2) ≡ p + suc (count_trailing_zeros w (a / 2)) = omega arith in
        at_even w p a even ∙ rest ∙ rw (off, even, low, halves, up)

module _ (a : ℕ) (small : a < 2 ^ 8) where
  pub places_count : length (places_of a) ≡ ones a
  unfolding places_of
  places_count = count_places 8 0 a small

  pub places_next : 0 < a → places_of a ≡ count_trailing_zeros 8 a ∷ places_of (bit_and a (a - 1))
  unfolding places_of
  places_next pos = lowest_place 8 0 a pos small ∙ rw zero-add

  pub ones_next : 0 < a → ones a ≡ ones (bit_and a (a - 1)) + 1
  ones_next pos =
      let others = count_places 8 0 (bit_and a (a - 1)) (omega (arith, and_le_l a (a - 1))) in
      omega (arith, count_places 8 0 a small, ap length (lowest_place 8 0 a pos small))

-- a number with ones is not 0
pub some_one : (a : ℕ) → 0 < ones a → 0 < a
unfolding ones
some_one zero h = h
some_one (suc a) h = omega arith
