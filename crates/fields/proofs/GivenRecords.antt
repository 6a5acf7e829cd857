-- Records whose fields all have absent values: reading and writing undo each other.
use Rattle.std.proofs.Common.{◌≡◌, ℕ, ◌+◌, ◌^◌, ◌<◌, ◌≤◌, Bool, true, false, cond, ltb, List, [], ◌∷◌, ◌++◌, length, Ok, Result, sym, ap, ◌∙◌, subst, pow-suc, arith}
use Rattle.std.proofs.lemmas.Bool.{ltb-true, lt-ltb}
use Rattle.supplied.specs.declared.errors.MakeError.{MakeError}
use Rattle.fields.specs.Fields.{given_of, Octets}
use Rattle.fields.specs.Layouts.{LayoutOf, places_of, record_of}
use Rattle.fields.specs.Reading.{Read, ◌>>=◌}
use Rattle.fields.specs.Undoing.{RecordLaws}
use Rattle.fields.proofs.FieldBytes.{bytes_from, map_from, end_from, AllFit}
use Rattle.fields.proofs.GivenFields.{present, spell, Fit, given_fields_back, given_fields_kept}
use Rattle.fields.proofs.RecordBytes.{record_back, record_kept}

module _ {N X : Type 0} (k : ℕ) (few : k ≤ 8) (width : ℕ → ℕ) (absent_at : N → ℕ → ℕ) (put : N → ℕ → ℕ → N) (start : N) (taken : N → ℕ → List ℕ → Read N) (made : N → Result X MakeError) where
  -- the map has a bit for each field and no other
  abbrev pub layout_for : LayoutOf N X
  layout_for = record { absent = start; defined = λ map. ltb map (2 ^ k); field_bits = λ map. map; taken = taken; made = λ map n. made n }

  abbrev pub map_of : List ℕ → ℕ
  map_of vs = map_from (present width absent_at put) (spell width absent_at put) put start 0 vs

  abbrev pub body_of : List ℕ → List ℕ
  body_of vs = bytes_from (present width absent_at put) (spell width absent_at put) put start 0 vs

  abbrev pub end_of : List ℕ → N
  end_of vs = end_from (present width absent_at put) (spell width absent_at put) put start 0 vs

  bit_small : (b : Bool) → cond b 1 0 ≤ 1
  bit_small true = omega arith
  bit_small false = omega arith

  map-small : (n : N) (p : ℕ) (vs : List ℕ) → map_from (present width absent_at put) (spell width absent_at put) put n p vs < 2 ^ length vs
  map-small n p [] = omega arith
  map-small n p (v ∷ vs) =
      let later = map-small (put n p v) (p + 1) vs in
      let bit = bit_small (present width absent_at put n p v) in
      let power = pow-suc 2 (length vs) in
      omega arith

  module _ (reads : (n : N) (p : ℕ) (bytes : List ℕ) → taken n p bytes ≡ ◌>>=◌ (given_of (width p) (absent_at n p) bytes) (λ q. Ok (put n p q.0, q.1))) (Known : N → ℕ → Type 0) (known : Known start 0) (next : (n : N) (p v : ℕ) → Known n p → Known (put n p v) (p + 1)) (stays : (n : N) (p : ℕ) → Known n p → put n p (absent_at n p) ≡ n) (fits : X → Type 0) (writes : X → List ℕ) (values_of : X → List ℕ) where
    module _ (count : (x : X) → length (values_of x) ≡ k) (fitting : (x : X) → fits x → AllFit (Fit width absent_at put) 0 (values_of x)) (makes : (x : X) → made (end_of (values_of x)) ≡ Ok x) (made_of : (vs : List ℕ) → length vs ≡ k → (x : X) → made (end_of vs) ≡ Ok x → vs ≡ values_of x) (written : (x : X) → writes x ≡ map_of (values_of x) ∷ body_of (values_of x)) where
      back : (x : X) → fits x → (rest : List ℕ) → record_of layout_for (writes x ++ rest) ≡ Ok (x, rest)
      unfolding places_of
      back x fit rest =
          let size = count x in
          let small : map_of (values_of x) < 2 ^ k = subst (λ j. map_of (values_of x) < 2 ^ j) size (map-small start 0 (values_of x)) in
          ap (λ l. record_of layout_for (l ++ rest)) (written x)
          ∙ record_back layout_for (map_of (values_of x)) (body_of (values_of x) ++ rest) rest (end_of (values_of x)) x (lt-ltb (map_of (values_of x)) (2 ^ k) small)
          (given_fields_back width absent_at put taken reads Known next stays 8 start 0 (values_of x) rest (omega arith) known (fitting x fit))
          (makes x)

      kept : (bytes : List ℕ) → Octets bytes → (x : X) (rest : List ℕ) → record_of layout_for bytes ≡ Ok (x, rest) → bytes ≡ writes x ++ rest
      unfolding places_of
      kept bytes all x rest same =
          let parts = record_kept layout_for bytes all x rest same in
          let small = ltb-true parts.map (2 ^ k) parts.known in
          let told = given_fields_kept width absent_at put taken reads Known next stays k 8 start 0 parts.map parts.body few small known parts.octets parts.numbers rest parts.fields in
          let values : told.values ≡ values_of x = made_of told.values told.count x (ap made (sym told.end) ∙ parts.made) in
          parts.bytes_are ∙ ap (λ m. m ∷ parts.body) told.map_is ∙ ap (λ l. map_of told.values ∷ l) told.bytes_are
          ∙ ap (λ vs. (map_of vs ∷ body_of vs) ++ rest) values ∙ ap (λ l. l ++ rest) (sym (written x))

      pub given_record_laws : RecordLaws fits (record_of layout_for) writes
      given_record_laws = record { read_back = back; written_back = kept }
