-- A number in its bytes: read back from them, and written back to them.
use Rattle.std.proofs.Common.{◌≡◌, ℕ, zero, suc, ◌+◌, ◌*◌, ◌/◌, ◌%◌, ◌^◌, ◌<◌, false, eqb, List, [], ◌∷◌, ◌++◌, Ok, sym, refl, ap, ◌∙◌, subst, pow-suc, arith}
use Rattle.std.proofs.lemmas.List.{append_assoc}
use Rattle.fields.specs.Fields.{spelled, field_of, given_of, bytes_of, Octets}
use Rattle.fields.specs.Reading.{◌>>=◌}
use Rattle.fields.proofs.Inversion.{both_steps, not_refused, never-read}
use Rattle.fields.proofs.Seen.{same_parts}

-- one more byte is read behind the others
spelled-more : (width n : ℕ) (bytes : List ℕ) → spelled (suc width) n bytes ≡ ◌>>=◌ (spelled width n bytes) (λ p. spelled 1 p.0 p.1)
spelled-more zero n bytes = refl
spelled-more (suc width) n [] = refl
spelled-more (suc width) n (b ∷ bytes) = spelled-more width (n * 256 + b) bytes

-- the number is read from its bytes
pub field_back : (width n : ℕ) → n < 256 ^ width → (rest : List ℕ) → field_of width (bytes_of width n ++ rest) ≡ Ok (n, rest)
field_back zero n small rest = let none : 0 ≡ n = omega arith in ap (λ k. Ok (k, rest)) none
field_back (suc width) n small rest =
    let power = pow-suc 256 width in
    let first = field_back width (n / 256) (omega arith) (n % 256 ∷ rest) in
    let whole : n / 256 * 256 + n % 256 ≡ n = omega arith in
    ap (field_of (suc width)) (append_assoc (bytes_of width (n / 256)) (n % 256 ∷ []) rest)
    ∙ spelled-more width 0 (bytes_of width (n / 256) ++ (n % 256 ∷ rest))
    ∙ ap (λ r. ◌>>=◌ r (λ p. spelled 1 p.0 p.1)) first ∙ ap (λ k. Ok (k, rest)) whole

-- bytes behind bytes
pub octets_behind : (front behind : List ℕ) → Octets (front ++ behind) → Octets behind
octets_behind [] behind all = all
octets_behind (b ∷ front) behind all = octets_behind front behind all.1

-- what was read of a number: its bytes stood in front
pub record Spelt (width : ℕ) (bytes : List ℕ) (n : ℕ) (rest : List ℕ) : Type 0 where
  pub bytes_are : bytes ≡ bytes_of width n ++ rest
  pub small : n < 256 ^ width
  pub octets : Octets rest

last_byte : (m : ℕ) (bytes : List ℕ) (n : ℕ) (rest : List ℕ) → Octets bytes → spelled 1 m bytes ≡ Ok (n, rest) → (b : ℕ) × (bytes ≡ b ∷ rest) × (b < 256) × (m * 256 + b ≡ n) × Octets rest
last_byte m [] n rest all same = absurd (never-read same)
last_byte m (b ∷ bytes) n rest all same =
    let parts = same_parts same in
    (b, ap (λ l. b ∷ l) parts.1, all.0, parts.0, subst Octets parts.1 all.1)

pub field_kept : (width : ℕ) (bytes : List ℕ) → Octets bytes → (n : ℕ) (rest : List ℕ) → field_of width bytes ≡ Ok (n, rest) → Spelt width bytes n rest
field_kept zero bytes all n rest same =
    let parts = same_parts same in
    record { bytes_are = parts.1; small = omega (arith, parts.0); octets = subst Octets parts.1 all }
field_kept (suc width) bytes all n rest same =
    let read = both_steps (spelled width 0 bytes) (λ p. spelled 1 p.0 p.1) (n, rest) (sym (spelled-more width 0 bytes) ∙ same) in
    let m = read.0.0 in
    let front = field_kept width bytes all m read.0.1 read.1 in
    let last = last_byte m read.0.1 n rest front.octets read.2 in
    let b = last.0 in
    let below = last.2 in
    let sum = last.3 in
    let high : m ≡ n / 256 = omega arith in
    let low : b ≡ n % 256 = omega arith in
    let power = pow-suc 256 width in
    let less = front.small in
    record {
      bytes_are =
          front.bytes_are ∙ ap (λ l. bytes_of width m ++ l) last.1
          ∙ ap (λ k. bytes_of width k ++ (b ∷ rest)) high ∙ ap (λ k. bytes_of width (n / 256) ++ (k ∷ rest)) low
          ∙ sym (append_assoc (bytes_of width (n / 256)) (n % 256 ∷ []) rest);
      small = omega arith;
      octets = last.4;
    }

-- a field that is there or left out, by whether it differs from its absent value
pub given_back : (width absent n : ℕ) → n < 256 ^ width → eqb n absent ≡ false → (rest : List ℕ) → given_of width absent (bytes_of width n ++ rest) ≡ Ok (n, rest)
given_back width absent n small other rest = rw (field_back width n small rest, other)

pub given-kept : (width absent : ℕ) (bytes : List ℕ) → Octets bytes → (n : ℕ) (rest : List ℕ) → given_of width absent bytes ≡ Ok (n, rest) → (eqb n absent ≡ false) × Spelt width bytes n rest
given-kept width absent bytes all n rest same =
    let read = both_steps (field_of width bytes) _ (n, rest) same in
    let other = not_refused (eqb read.0.0 absent) _ _ (n, rest) read.2 in
    let parts = same_parts other.1 in
    (ap (λ k. eqb k absent) (sym parts.0) ∙ other.0, field_kept width bytes all n rest (read.1 ∙ ap (λ k. Ok (k, read.0.1)) parts.0 ∙ ap (λ l. Ok (n, l)) parts.1))
