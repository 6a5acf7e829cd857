-- A record, from its map and its fields.
use Rattle.std.proofs.Common.{◌≡◌, ℕ, ◌+◌, ◌<◌, true, List, [], ◌∷◌, Ok, Err, Result, refl, ap, ◌∙◌, subst, zero-add}
use Rattle.supplied.specs.declared.errors.MakeError.{MakeError}
use Rattle.fields.specs.Fields.{Octets}
use Rattle.fields.specs.Layouts.{LayoutOf, places_of, fields_of, numbers_of, made_of, record_of}
use Rattle.fields.proofs.Inversion.{both_steps, passed, never-read}
use Rattle.fields.proofs.Seen.{same_parts}

module _ {N X : Type 0} (layout : LayoutOf N X) where
  pub record_back : (map : ℕ) (body rest : List ℕ) (n : N) (x : X) → layout.defined map ≡ true → fields_of layout.taken (places_of (layout.field_bits map)) layout.absent body ≡ Ok (n, rest) → layout.made map n ≡ Ok x → record_of layout (map ∷ body) ≡ Ok (x, rest)
  record_back map body rest n x known back made = rw (zero-add map, known, back, made)

  pub record Parts (bytes : List ℕ) (x : X) (rest : List ℕ) : Type 0 where
    pub map : ℕ
    pub body : List ℕ
    pub numbers : N
    pub bytes_are : bytes ≡ map ∷ body
    pub octet : map < 256
    pub octets : Octets body
    pub known : layout.defined map ≡ true
    pub fields : fields_of layout.taken (places_of (layout.field_bits map)) layout.absent body ≡ Ok (numbers, rest)
    pub made : layout.made map numbers ≡ Ok x

  made-parts : (r : Result X MakeError) (bytes behind : List ℕ) (x : X) (rest : List ℕ) → made_of r bytes behind ≡ Ok (x, rest) → (r ≡ Ok x) × (behind ≡ rest)
  made-parts (Ok y) bytes behind x rest same = let parts = same_parts same in (ap Ok parts.0, parts.1)
  made-parts (Err cause) bytes behind x rest same = absurd (never-read same)

  pub record_kept : (bytes : List ℕ) → Octets bytes → (x : X) (rest : List ℕ) → record_of layout bytes ≡ Ok (x, rest) → Parts bytes x rest
  record_kept [] all x rest same = absurd (never-read same)
  record_kept (map ∷ body) all x rest same =
      let read = both_steps (numbers_of layout (map ∷ body)) _ (x, rest) same in
      let told = passed (layout.defined (0 + map)) _ _ read.0 read.1 in
      let steps = both_steps (fields_of layout.taken (places_of (layout.field_bits (0 + map))) layout.absent body) _ read.0 told.1 in
      let end = made-parts (layout.made read.0.0.0 read.0.0.1) (map ∷ body) read.0.1 x rest read.2 in
      let parts = same_parts steps.2 in
      let is = zero-add map in
      let P : ℕ → Type 0 = λ k. (layout.defined k ≡ true) × (fields_of layout.taken (places_of (layout.field_bits k)) layout.absent body ≡ Ok (steps.0.0, rest)) × (layout.made k steps.0.0 ≡ Ok x) in
      let found : P map =
      subst P is
      (told.0, steps.1 ∙ ap (λ l. Ok (steps.0.0, l)) (parts.1 ∙ end.1), ap (λ (q : ℕ × N). layout.made q.0 q.1) parts.0 ∙ end.0) in
      record {
        map = map;
        body = body;
        numbers = steps.0.0;
        bytes_are = refl;
        octet = all.0;
        octets = all.1;
        known = found.0;
        fields = found.1;
        made = found.2;
      }
