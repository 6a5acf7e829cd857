-- Multiples of a number, multiples of powers of two, and numbers cut down to a multiple.
use Rattle.std.specs.Prelude.{◌≡◌, ℕ, ◌+◌, ◌-◌, ◌*◌, ◌/◌, ◌%◌, ◌^◌, ◌<◌, ◌≤◌}
use Rattle.std.proofs.Common.{sym, ap, ◌∙◌, ⊎_elim, mul-le-mul_left, mul-add, mul-one, mod-lt, arith}
use Rattle.std.proofs.Math.Nat.{div-add-mod, mul-mod_right, zero-mod, add-mod, mod_self}
use Rattle.std.proofs.Math.Pow.{mod-mod-pow}
use Rattle.std.proofs.lemmas.Bool.{cases_lt}

-- two multiples of s are at least s apart
pub multiples_apart : (s x y : ℕ) → x % s ≡ 0 → y % s ≡ 0 → x < y → x + s ≤ y
multiples_apart s x y hx hy lt =
    ⊎_elim
    (λ (h : x / s < y / s). let m : s * (x / s + 1) ≤ s * (y / s) = mul-le-mul_left s (omega arith) in
    omega (arith, div-add-mod x s, div-add-mod y s, mul-add s (x / s) 1, mul-one s))
    (λ (h : y / s ≤ x / s). absurd (omega (arith, div-add-mod x s, div-add-mod y s, mul-le-mul_left s h))) (cases_lt (x / s) (y / s))

pub sum_multiple : (s x y : ℕ) → x % s ≡ 0 → y % s ≡ 0 → (x + y) % s ≡ 0
sum_multiple s x y hx hy = rw (add-mod, hx, hy) (zero-mod s)

-- a multiple of a power of two is one of each smaller power
pub finer_multiple : (x i j : ℕ) → i ≤ j → x % 2 ^ j ≡ 0 → x % 2 ^ i ≡ 0
finer_multiple x i j h z =
    let split : j - i + i ≡ j = omega arith in
    let coarse : x % 2 ^ (j - i + i) ≡ 0 = rw split z in
    sym (mod-mod-pow x (j - i) i) ∙ ap (λ (n : ℕ). n % 2 ^ i) coarse ∙ zero-mod (2 ^ i)

pub finer_power : (i j : ℕ) → i ≤ j → 2 ^ j % 2 ^ i ≡ 0
finer_power i j h = finer_multiple (2 ^ j) i j h (mod_self (2 ^ j))

-- x without what it is above the multiple of s below it
abbrev pub cut_down : ℕ → ℕ → ℕ
cut_down s x = x - x % s

pub cut_multiple : (s x : ℕ) → cut_down s x % s ≡ 0
cut_multiple s x =
    let e : x - x % s ≡ s * (x / s) = omega (arith, div-add-mod x s) in
    rw e (mul-mod_right s (x / s))

pub cut_below : (s x : ℕ) → cut_down s x ≤ x
cut_below s x = omega arith

-- a multiple that is not above x is not above what x is cut down to
pub cut_keeps : (s x y : ℕ) → 0 < s → y % s ≡ 0 → y ≤ x → y ≤ cut_down s x
cut_keeps s x y pos z h =
    ⊎_elim
    (λ (lt : cut_down s x < y). absurd (omega (arith, multiples_apart s (cut_down s x) y (cut_multiple s x) z lt, mod-lt x pos, div-add-mod x s)))
    (λ (le : y ≤ cut_down s x). le) (cases_lt (cut_down s x) y)
