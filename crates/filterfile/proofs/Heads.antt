-- A file's head is read exactly where the code fits, the count is in its limit, and there is room.
use Rattle.std.proofs.Common.{◌≡◌, ℕ, ◌+◌, ◌<◌, ◌≤◌, true, false, eqb, ltb, List, [], ◌∷◌, Ok, Err, refl, ap, ◌∙◌, zero-add, arith}
use Rattle.std.proofs.lemmas.Bool.{eqb-true, eqb-false, eq-eqb, ne_eqb, ltb-false, le-ltb, or_parts, or_from}
use Rattle.fields.specs.declared.faults.FaultKind.TheVariants.{OtherFamily}
use Rattle.fields.specs.Faults.{fault_at, ends_early}
use Rattle.filterfile.specs.Files.{usable_places, lacks_places, head_of}
use Rattle.fields.proofs.Inversion.{passed, not_refused, never-read}
use Rattle.fields.proofs.Seen.{same_parts}

-- there is room for the clauses and for the default
room_left : (memory count : ℕ) → lacks_places memory count ≡ false → count < memory
room_left memory count h =
    let parts = or_parts (eqb memory 0) (ltb (usable_places memory) count) h in
    let some = eqb-false memory 0 parts.0 in
    let fits = ltb-false (usable_places memory) count parts.1 in
    omega arith

has_room : (memory count : ℕ) → count ≤ 64 → count < memory → lacks_places memory count ≡ false
has_room memory count few fits =
    or_from (eqb memory 0) (ltb (usable_places memory) count) (ne_eqb memory 0 (omega arith))
    (le-ltb (usable_places memory) count (omega arith))

pub record HeadRead (code memory : ℕ) (bytes : List ℕ) (count : ℕ) (body : List ℕ) : Type 0 where
  pub bytes_are : bytes ≡ code ∷ count ∷ body
  pub limit : count ≤ 64
  pub room : count < memory

pub head_read : (code memory : ℕ) (bytes : List ℕ) (count : ℕ) (body : List ℕ) → head_of code memory bytes ≡ Ok (count, body) → HeadRead code memory bytes count body
head_read code memory [] count body same = absurd (never-read same)
head_read code memory (f ∷ []) count body same =
    absurd (never-read (passed (eqb (0 + f) code) (fault_at OtherFamily (f ∷ [])) (Err ends_early) (count, body) same).1)
head_read code memory (f ∷ n ∷ rest) count body same =
    let family = passed (eqb (0 + f) code) _ _ (count, body) same in
    let few = not_refused (ltb 64 (0 + n)) _ _ (count, body) family.1 in
    let fits = not_refused (lacks_places memory (0 + n)) _ _ (count, body) few.1 in
    finish family.0 few.0 fits.0 (same_parts fits.1).0 (same_parts fits.1).1
  where
    finish : eqb (0 + f) code ≡ true → ltb 64 (0 + n) ≡ false → lacks_places memory (0 + n) ≡ false → 0 + n ≡ count → rest ≡ body → HeadRead code memory (f ∷ n ∷ rest) count body
    finish family few fits number behind =
        let code_is : f ≡ code = omega (arith, eqb-true (0 + f) code family) in
        let count-is : n ≡ count = omega (arith, number) in
        record {
          bytes_are = ap (λ b. b ∷ n ∷ rest) code_is ∙ ap (λ b. code ∷ b ∷ rest) count-is ∙ ap (λ l. code ∷ count ∷ l) behind;
          limit = omega (arith, ltb-false 64 (0 + n) few);
          room = omega (arith, room_left memory (0 + n) fits);
        }

pub head-taken : (code memory count : ℕ) (body : List ℕ) → count ≤ 64 → count < memory → head_of code memory (code ∷ count ∷ body) ≡ Ok (count, body)
head-taken code memory count body few fits =
    rw (zero-add code, zero-add count, eq-eqb code code refl, le-ltb 64 count few, has_room memory count few fits)
