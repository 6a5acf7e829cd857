-- The fields of a record, read back from what is written of them and written back from what was read.
use Rattle.std.proofs.Common.{◌≡◌, ℕ, zero, suc, ◌+◌, ◌*◌, ◌/◌, ◌%◌, ◌^◌, ◌<◌, ◌≤◌, Bool, true, false, cond, List, [], ◌∷◌, ◌++◌, length, Ok, sym, refl, ap, ◌∙◌, subst, ⊎_elim, pow-suc, arith}
use Rattle.std.proofs.lemmas.List.{append_assoc}
use Rattle.fields.specs.Fields.{Octets}
use Rattle.fields.specs.Layouts.{places_from, fields_of}
use Rattle.fields.specs.Reading.{Read}
use Rattle.fields.proofs.Inversion.{both_steps}
use Rattle.fields.proofs.Places.{parity, at_odd, at_even}
use Rattle.fields.proofs.Seen.{same_parts}

-- no ones, no places
no_places : (w p : ℕ) → places_from w p 0 ≡ []
unfolding places_from
no_places zero p = refl
no_places (suc w) p = no_places w (p + 1)

-- each value fits the field of its place
abbrev pub AllFit : {V : Type 0} → (ℕ → V → Type 0) → ℕ → List V → Type 0
AllFit Fit p [] = Unit {0}
AllFit Fit p (v ∷ vs) = Fit p v × AllFit Fit (p + 1) vs

-- by the numbers so far: whether a value's field is there, its bytes, and the numbers with the value
module _ {N V : Type 0} (present : N → ℕ → V → Bool) (spell : ℕ → V → List ℕ) (put : N → ℕ → V → N) where
  abbrev pub bytes_from : N → ℕ → List V → List ℕ
  bytes_from n p [] = []
  bytes_from n p (v ∷ vs) = cond (present n p v) (spell p v) [] ++ bytes_from (put n p v) (p + 1) vs

  abbrev pub map_from : N → ℕ → List V → ℕ
  map_from n p [] = 0
  map_from n p (v ∷ vs) = cond (present n p v) 1 0 + 2 * map_from (put n p v) (p + 1) vs

  abbrev pub end_from : N → ℕ → List V → N
  end_from n p [] = n
  end_from n p (v ∷ vs) = end_from (put n p v) (p + 1) vs

  -- what was read of fields: values whose map and bytes these are
  pub record Kept (n : N) (p bits : ℕ) (bytes : List ℕ) (m : N) (rest : List ℕ) (k : ℕ) : Type 0 where
    pub values : List V
    pub count : length values ≡ k
    pub end : m ≡ end_from n p values
    pub map_is : bits ≡ map_from n p values
    pub bytes_are : bytes ≡ bytes_from n p values ++ rest
    pub octets : Octets rest

  -- what was read of one field
  pub record KeptField (n : N) (p : ℕ) (bytes : List ℕ) (m : N) (rest : List ℕ) : Type 0 where
    pub value : V
    pub there : present n p value ≡ true
    pub end : m ≡ put n p value
    pub bytes_are : bytes ≡ spell p value ++ rest
    pub octets : Octets rest

  -- what the numbers so far obey at a place, and a field left out changes none of them
  module _ (taken : N → ℕ → List ℕ → Read N) (Known : N → ℕ → Type 0) (next : (n : N) (p : ℕ) (v : V) → Known n p → Known (put n p v) (p + 1)) (left_out : (n : N) (p : ℕ) (v : V) → Known n p → present n p v ≡ false → put n p v ≡ n) where
    module _ (Fit : ℕ → V → Type 0) (there : (n : N) (p : ℕ) (v : V) (rest : List ℕ) → Fit p v → present n p v ≡ true → taken n p (spell p v ++ rest) ≡ Ok (put n p v, rest)) where
      -- the bytes of the first field, with those of the others behind it
      step_back : (w p : ℕ) (n : N) (v : V) (m : ℕ) (more rest : List ℕ) (end : N) (b : Bool) → present n p v ≡ b → Known n p → Fit p v → fields_of taken (places_from w (p + 1) m) (put n p v) (more ++ rest) ≡ Ok (end, rest) → fields_of taken (places_from (suc w) p (cond b 1 0 + 2 * m)) n ((cond b (spell p v) [] ++ more) ++ rest) ≡ Ok (end, rest)
      step_back w p n v m more rest end true is known fit later =
          let odd : (1 + 2 * m) % 2 ≡ 1 = omega arith in
          let half : (1 + 2 * m) / 2 ≡ m = omega arith in
          rw (append_assoc (spell p v) more rest, at_odd w p (1 + 2 * m) odd, half, there n p v (more ++ rest) fit is) later
      step_back w p n v m more rest end false is known fit later =
          let even : (0 + 2 * m) % 2 ≡ 0 = omega arith in
          let half : (0 + 2 * m) / 2 ≡ m = omega arith in
          rw (at_even w p (0 + 2 * m) even, half)
          (ap (λ k. fields_of taken (places_from w (p + 1) m) k (more ++ rest)) (sym (left_out n p v known is)) ∙ later)

      pub fields_back : (w : ℕ) (n : N) (p : ℕ) (vs : List V) (rest : List ℕ) → length vs ≤ w → Known n p → AllFit Fit p vs → fields_of taken (places_from w p (map_from n p vs)) n (bytes_from n p vs ++ rest) ≡ Ok (end_from n p vs, rest)
      fields_back w n p [] rest few known fit = rw (no_places w p)
      fields_back zero n p (v ∷ vs) rest few known fit = absurd (omega arith)
      fields_back (suc w) n p (v ∷ vs) rest few known fit =
          step_back w p n v (map_from (put n p v) (p + 1) vs) (bytes_from (put n p v) (p + 1) vs) rest
          (end_from (put n p v) (p + 1) vs) (present n p v) refl known fit.0
          (fields_back w (put n p v) (p + 1) vs rest (omega arith) (next n p v known) fit.1)

    module _ (kept : (n : N) (p : ℕ) (bytes : List ℕ) → Octets bytes → (m : N) (rest : List ℕ) → taken n p bytes ≡ Ok (m, rest) → KeptField n p bytes m rest) (none : (n : N) (p : ℕ) → (v : V) × (present n p v ≡ false)) where
      first-kept : (n : N) (p bits : ℕ) (bytes : List ℕ) (m : N) (rest : List ℕ) (k : ℕ) (v : V) (b : Bool) (middle : List ℕ) → present n p v ≡ b → bits ≡ cond b 1 0 + 2 * (bits / 2) → bytes ≡ cond b (spell p v) [] ++ middle → Kept (put n p v) (p + 1) (bits / 2) middle m rest k → Kept n p bits bytes m rest (suc k)
      first-kept n p bits bytes m rest k v b middle is halves front later =
          let more = bytes_from (put n p v) (p + 1) later.values in
          record {
            values = v ∷ later.values;
            count = ap suc later.count;
            end = later.end;
            map_is =
                rw is (halves ∙ ap (λ h. cond b 1 0 + 2 * h) later.map_is);
            bytes_are =
                rw is
                (front ∙ ap (λ l. cond b (spell p v) [] ++ l) later.bytes_are
                ∙ sym (append_assoc (cond b (spell p v) []) more rest));
            octets = later.octets;
          }

      pub fields-kept : (k w : ℕ) (n : N) (p bits : ℕ) (bytes : List ℕ) → k ≤ w → bits < 2 ^ k → Known n p → Octets bytes → (m : N) (rest : List ℕ) → fields_of taken (places_from w p bits) n bytes ≡ Ok (m, rest) → Kept n p bits bytes m rest k
      fields-kept zero w n p bits bytes fits small known all m rest same =
          let empty : bits ≡ 0 = omega arith in
          let parts = same_parts (sym (ap (λ l. fields_of taken l n bytes) (ap (places_from w p) empty ∙ no_places w p)) ∙ same) in
          record { values = []; count = refl; end = sym parts.0; map_is = empty; bytes_are = parts.1; octets = subst Octets parts.1 all }
      fields-kept (suc k) zero n p bits bytes fits small known all m rest same = absurd (omega arith)
      fields-kept (suc k) (suc w) n p bits bytes fits small known all m rest same =
          let power = pow-suc 2 k in
          let later = λ (v : V) (middle : List ℕ) (octets : Octets middle) (read : fields_of taken (places_from w (p + 1) (bits / 2)) (put n p v) middle ≡ Ok (m, rest)). fields-kept k w (put n p v) (p + 1) (bits / 2) middle (omega arith) (omega arith) (next n p v known) octets m rest read in
          ⊎_elim (odd later) (even later) (parity bits)
        where
          odd : ((v : V) (middle : List ℕ) → Octets middle → fields_of taken (places_from w (p + 1) (bits / 2)) (put n p v) middle ≡ Ok (m, rest) → Kept (put n p v) (p + 1) (bits / 2) middle m rest k) → bits % 2 ≡ 1 → Kept n p bits bytes m rest (suc k)
          odd later is =
              let step = both_steps (taken n p bytes) (λ q. fields_of taken (places_from w (p + 1) (bits / 2)) q.0 q.1) (m, rest) (sym (ap (λ l. fields_of taken l n bytes) (at_odd w p bits is)) ∙ same) in
              let first = kept n p bytes all step.0.0 step.0.1 step.1 in
              let others = ap (λ q. fields_of taken (places_from w (p + 1) (bits / 2)) q step.0.1) (sym first.end) ∙ step.2 in
              first-kept n p bits bytes m rest k first.value true step.0.1 first.there (omega arith) first.bytes_are (later first.value step.0.1 first.octets others)

          even : ((v : V) (middle : List ℕ) → Octets middle → fields_of taken (places_from w (p + 1) (bits / 2)) (put n p v) middle ≡ Ok (m, rest) → Kept (put n p v) (p + 1) (bits / 2) middle m rest k) → bits % 2 ≡ 0 → Kept n p bits bytes m rest (suc k)
          even later is =
              let absent = none n p in
              let others = ap (λ q. fields_of taken (places_from w (p + 1) (bits / 2)) q bytes) (left_out n p absent.0 known absent.1) ∙ (sym (ap (λ l. fields_of taken l n bytes) (at_even w p bits is)) ∙ same) in
              first-kept n p bits bytes m rest k absent.0 false bytes absent.1 (omega arith) refl (later absent.0 bytes all others)
