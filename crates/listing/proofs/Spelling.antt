-- Octets in decimal and in three digits.
use Rattle.std.proofs.Common.{◌≡◌, ℕ, zero, suc, ◌+◌, ◌-◌, ◌*◌, ◌/◌, ◌%◌, ◌<◌, ◌≤◌, List, [], ◌∷◌, ◌++◌, length, take, drop, sym, ap, ◌∙◌, inl, inr, add-zero, zero-add, arith}
use Rattle.std.specs.List.{range_with_len, flat_map}
use Rattle.std.proofs.lemmas.Fmt.{decimal_digit, decimal_step}
use Rattle.std.proofs.lemmas.List.{drop-drop, drop-append-le, take_at, length-drop}
use Rattle.std.proofs.lemmas.Bool.{cases_lt}
use Rattle.listing.specs.Octets.{octet_text, three_digits, spelled_octets}

-- the digits of n, after the zeros that are not printed
one_digit : (n : ℕ) → n < 10 → octet_text n ≡ drop 2 (three_digits n)
one_digit n h = let e : n ≡ n % 10 = omega arith in decimal_digit n h ∙ ap (λ d. (48 + d) ∷ []) e

two_digits : (n : ℕ) → 10 ≤ n → n < 100 → octet_text n ≡ drop 1 (three_digits n)
two_digits n low high =
    let e : n / 10 ≡ n / 10 % 10 = omega arith in
    decimal_step n low (omega arith)
    ∙ ap (λ ds. ds ++ ((48 + n % 10) ∷ [])) (decimal_digit (n / 10) (omega arith) ∙ ap (λ d. (48 + d) ∷ []) e)

all_digits : (n : ℕ) → 100 ≤ n → n < 1000 → octet_text n ≡ three_digits n
all_digits n low high =
    let e : n / 10 / 10 % 10 ≡ n / 100 = omega arith in
    decimal_step n (omega arith) (omega arith)
    ∙ ap (λ ds. ds ++ ((48 + n % 10) ∷ []))
    (two_digits (n / 10) (omega arith) (omega arith) ∙ ap (λ d. (48 + d) ∷ (48 + n / 10 % 10) ∷ []) e)

-- how many they are
pub one_long : (n : ℕ) → n < 10 → length (octet_text n) ≡ 1
one_long n h = ap length (one_digit n h)

pub two_long : (n : ℕ) → 10 ≤ n → n < 100 → length (octet_text n) ≡ 2
two_long n low high = ap length (two_digits n low high)

pub three_long : (n : ℕ) → 100 ≤ n → n < 1000 → length (octet_text n) ≡ 3
three_long n low high = ap length (all_digits n low high)

without_zeros : (n z : ℕ) → n < 1000 → z + length (octet_text n) ≡ 3 → octet_text n ≡ drop z (three_digits n)
without_zeros n z high e =
    elim (cases_lt n 10) [
      | inl l ↦ let q : 2 ≡ z = omega (arith, one_long n l) in one_digit n l ∙ ap (λ k. drop k (three_digits n)) q
      | inr g ↦ elim (cases_lt n 100) [
        | inl l ↦ let q : 1 ≡ z = omega (arith, two_long n g l) in two_digits n g l ∙ ap (λ k. drop k (three_digits n)) q
        | inr f ↦ let q : 0 ≡ z = omega (arith, three_long n f high) in all_digits n f high ∙ ap (λ k. drop k (three_digits n)) q
      ]
    ]

-- the table from entry k on
from-entry : (k a m : ℕ) → drop (3 * k) (flat_map three_digits (range_with_len a (k + m))) ≡ flat_map three_digits (range_with_len (a + k) m)
from-entry zero a m = simp (zero-add, add-zero)
from-entry (suc k) a m =
    let e : 3 * suc k ≡ suc (suc (suc (3 * k))) = omega arith in
    let f : suc k + m ≡ suc (k + m) = omega arith in
    let g : a + 1 + k ≡ a + suc k = omega arith in
    rw (e, f) (from-entry k (a + 1) m ∙ ap (λ i. flat_map three_digits (range_with_len i m)) g)

-- entry n, and what follows it
entry : (n : ℕ) → n < 256 → (rest : List ℕ) × (drop (3 * n) spelled_octets ≡ three_digits n ++ rest)
entry n h =
    let m : ℕ = 255 - n in
    let e : 256 ≡ n + suc m = omega arith in (
      flat_map three_digits (range_with_len (n + 1) m),
      ap (λ k. drop (3 * n) (flat_map three_digits (range_with_len 0 k))) e ∙ from-entry n 0 (suc m)
          ∙ ap (λ i. flat_map three_digits (range_with_len i (suc m))) (zero-add n),
    )

-- what is printed of an entry: its digits after the zeros
cut : (n z : ℕ) (table rest : List ℕ) → z ≤ 3 → drop (3 * n) table ≡ three_digits n ++ rest → take (3 * n + 3 - (3 * n + z)) (drop (3 * n + z) table) ≡ drop z (three_digits n)
cut n z table rest h e =
    let k : 3 * n + 3 - (3 * n + z) ≡ 3 - z = omega arith in
    rw (k, ← drop-drop z (3 * n) table, e, drop-append-le z (three_digits n) rest h)
    (take_at (drop z (three_digits n)) rest (3 - z) (length-drop z (three_digits n)))

pub printed_part : (n z : ℕ) → n < 256 → z + length (octet_text n) ≡ 3 → take (3 * n + 3 - (3 * n + z)) (drop (3 * n + z) spelled_octets) ≡ octet_text n
printed_part n z h e =
    let t = entry n h in
    cut n z spelled_octets t.0 (omega arith) t.1 ∙ sym (without_zeros n z (omega arith) e)
