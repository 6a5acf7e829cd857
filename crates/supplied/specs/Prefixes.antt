-- Addresses of W bits and the prefixes that they begin with.
use Rattle.std.specs.Prelude.{◌≡◌, ℕ, ◌+◌, ◌-◌, ◌*◌, ◌/◌, ◌%◌, ◌^◌, ◌<◌, ◌≤◌, Bool, true, ◌&&◌, ◌==◌, nat_lt}
use Rattle.std.proofs.Common.{sym, ap, ◌∙◌, div-add-mod', mod-lt, arith, pow_pos}
use Rattle.std.proofs.Math.Nat.{div-add-mod}
use Rattle.std.proofs.lemmas.Nat.{div-mul-add}
use Rattle.std.proofs.lemmas.Bool.{ltb-true, eqb-true, and_parts, and_from, lt-ltb, eq-eqb}

-- the first n bits of the address
abbrev pub first_bits : (W n address : ℕ) → ℕ
first_bits W n address = address / 2 ^ (W - n)

-- the bits of the address after the first n
abbrev pub bits_after : (W n address : ℕ) → ℕ
bits_after W n address = address % 2 ^ (W - n)

-- two addresses agree over the first n bits
abbrev pub agree : (W n x y : ℕ) → Bool
agree W n x y = first_bits W n x == first_bits W n y

-- an address of W bits, none of them set after the first n
abbrev pub is_prefix : (W n address : ℕ) → Bool
is_prefix W n address = nat_lt address (2 ^ W) && bits_after W n address == 0

module _ (W n address : ℕ) where
  pub prefix_bound : is_prefix W n address ≡ true → address < 2 ^ W
  prefix_bound h = ltb-true address (2 ^ W) (and_parts (nat_lt address (2 ^ W)) (bits_after W n address == 0) h).0

  pub prefix_zeros : is_prefix W n address ≡ true → bits_after W n address ≡ 0
  prefix_zeros h =
      eqb-true (bits_after W n address) 0 (and_parts (nat_lt address (2 ^ W)) (bits_after W n address == 0) h).1

  pub is_prefix_lem : address < 2 ^ W → bits_after W n address ≡ 0 → is_prefix W n address ≡ true
  is_prefix_lem b z =
      and_from (nat_lt address (2 ^ W)) (bits_after W n address == 0) (lt-ltb address (2 ^ W) b)
      (eq-eqb (bits_after W n address) 0 z)

-- The addresses that agree with a prefix over its n bits lie in one interval.
module _ (W n address x : ℕ) (zeros : bits_after W n address ≡ 0) where
  pub agree-from : agree W n x address ≡ true → address ≤ x
  agree-from h =
      let s = 2 ^ (W - n) in
      let e = eqb-true (x / s) (address / s) h in
      omega (arith, div-add-mod x s, div-add-mod address s, ap (λ (k : ℕ). s * k) e)

  pub agree-upto : agree W n x address ≡ true → x < address + 2 ^ (W - n)
  agree-upto h =
      let s = 2 ^ (W - n) in
      let e = eqb-true (x / s) (address / s) h in
      omega (arith, div-add-mod x s, div-add-mod address s, ap (λ (k : ℕ). s * k) e, mod-lt x (pow_pos (W - n)))

  pub agreeing : address ≤ x → x < address + 2 ^ (W - n) → agree W n x address ≡ true
  agreeing h k =
      let s = 2 ^ (W - n) in
      let e : address / s * s + (x - address) ≡ x = omega (arith, div-add-mod' address s) in
      let below : x - address < s = omega arith in
      eq-eqb (x / s) (address / s) (ap (λ (y : ℕ). y / s) (sym e) ∙ div-mul-add (address / s) s (x - address) below)
