-- Fields that have absent values, read back and written back.
use Rattle.std.proofs.Common.{◌≡◌, ℕ, ◌+◌, ◌^◌, ◌<◌, ◌≤◌, Bool, true, false, not, eqb, List, ◌++◌, length, Ok, sym, refl, ap, ◌∙◌}
use Rattle.std.proofs.lemmas.Bool.{eqb-true, eq-eqb, not-true, not-false}
use Rattle.fields.specs.Fields.{given_of, bytes_of, is_given, Octets}
use Rattle.fields.specs.Layouts.{places_from, fields_of}
use Rattle.fields.specs.Reading.{Read, ◌>>=◌}
use Rattle.fields.proofs.FieldBytes.{bytes_from, map_from, end_from, AllFit, fields_back, Kept, KeptField, fields-kept}
use Rattle.fields.proofs.Inversion.{both_steps}
use Rattle.fields.proofs.NumberBytes.{given_back, given-kept}
use Rattle.fields.proofs.Seen.{same_parts}

-- a field's width, its absent value by the numbers so far, and the numbers with its value
module _ {N : Type 0} (width : ℕ → ℕ) (absent_at : N → ℕ → ℕ) (put : N → ℕ → ℕ → N) where
  abbrev pub present : N → ℕ → ℕ → Bool
  present n p v = is_given (absent_at n p) v

  abbrev pub spell : ℕ → ℕ → List ℕ
  spell p v = bytes_of (width p) v

  abbrev pub Fit : ℕ → ℕ → Type 0
  Fit p v = v < 256 ^ width p

  module _ (taken : N → ℕ → List ℕ → Read N) (reads : (n : N) (p : ℕ) (bytes : List ℕ) → taken n p bytes ≡ ◌>>=◌ (given_of (width p) (absent_at n p) bytes) (λ q. Ok (put n p q.0, q.1))) (Known : N → ℕ → Type 0) (next : (n : N) (p v : ℕ) → Known n p → Known (put n p v) (p + 1)) (stays : (n : N) (p : ℕ) → Known n p → put n p (absent_at n p) ≡ n) where
    there : (n : N) (p v : ℕ) (rest : List ℕ) → Fit p v → present n p v ≡ true → taken n p (spell p v ++ rest) ≡ Ok (put n p v, rest)
    there n p v rest fit is =
        reads n p (spell p v ++ rest)
        ∙ ap (λ r. ◌>>=◌ r (λ q. Ok (put n p q.0, q.1))) (given_back (width p) (absent_at n p) v fit (not-true (eqb v (absent_at n p)) is) rest)

    left_out : (n : N) (p v : ℕ) → Known n p → present n p v ≡ false → put n p v ≡ n
    left_out n p v known is =
        ap (put n p) (eqb-true v (absent_at n p) (not-false (eqb v (absent_at n p)) is)) ∙ stays n p known

    kept : (n : N) (p : ℕ) (bytes : List ℕ) → Octets bytes → (m : N) (rest : List ℕ) → taken n p bytes ≡ Ok (m, rest) → KeptField present spell put n p bytes m rest
    kept n p bytes all m rest same =
        let read = both_steps (given_of (width p) (absent_at n p) bytes) (λ q. Ok (put n p q.0, q.1)) (m, rest) (sym (reads n p bytes) ∙ same) in
        let told = given-kept (width p) (absent_at n p) bytes all read.0.0 read.0.1 read.1 in
        let parts = same_parts read.2 in
        let spelt = told.1 in
        record {
          value = read.0.0;
          there = ap not told.0;
          end = sym parts.0;
          bytes_are = spelt.bytes_are ∙ ap (λ l. spell p read.0.0 ++ l) parts.1;
          octets = subst_octets parts.1 spelt.octets;
        }
      where
        subst_octets : {a b : List ℕ} → a ≡ b → Octets a → Octets b
        subst_octets same octets = rw same at octets

    none : (n : N) (p : ℕ) → (v : ℕ) × (present n p v ≡ false)
    none n p = (absent_at n p, ap not (eq-eqb (absent_at n p) (absent_at n p) refl))

    pub given_fields_back : (w : ℕ) (n : N) (p : ℕ) (vs : List ℕ) (rest : List ℕ) → length vs ≤ w → Known n p → AllFit Fit p vs → fields_of taken (places_from w p (map_from present spell put n p vs)) n (bytes_from present spell put n p vs ++ rest) ≡ Ok (end_from present spell put n p vs, rest)
    given_fields_back = fields_back present spell put taken Known next left_out Fit there

    pub given_fields_kept : (k w : ℕ) (n : N) (p bits : ℕ) (bytes : List ℕ) → k ≤ w → bits < 2 ^ k → Known n p → Octets bytes → (m : N) (rest : List ℕ) → fields_of taken (places_from w p bits) n bytes ≡ Ok (m, rest) → Kept present spell put n p bits bytes m rest k
    given_fields_kept = fields-kept present spell put taken Known next left_out kept none
