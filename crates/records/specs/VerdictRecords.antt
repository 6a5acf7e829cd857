-- The record of a verdict: bit 0 accept, without a field, and no other bit.
use Rattle.std.specs.Prelude.{◌≡◌, ℕ, zero, suc, true, cond, List, [], ◌∷◌, ◌++◌, Ok, nat_lt, refl}
use Rattle.std.proofs.Common.{ap, ◌∙◌, arith}
use Rattle.std.proofs.lemmas.Bool.{ltb-true}
use Rattle.supplied.specs.declared.actions.Verdict.{Verdict}
use Rattle.supplied.specs.declared.actions.Verdict.TheVariants.{Reject, Accept}
use Rattle.fields.specs.Fields.{Octets}
use Rattle.fields.specs.Layouts.{LayoutOf, places_from, places_of, fields_of, record_of}
use Rattle.fields.specs.Undoing.{RecordLaws}
use Rattle.fields.proofs.RecordBytes.{record_back, record_kept}
use Rattle.fields.proofs.Seen.{same_parts}
use Rattle.records.specs.declared.verdicts.VerdictNumbers.{VerdictNumbers}
use Rattle.records.specs.ActionRecords.{is_accept}

abbrev pub verdict_layout : LayoutOf VerdictNumbers Verdict
verdict_layout = record {
  absent = record {};
  defined = λ map. nat_lt map 2;
  field_bits = λ map. 0;
  taken = λ n place bytes. Ok (n, bytes);
  made = λ map n. Ok (cond (is_accept map) Accept Reject);
}

abbrev pub verdict_bytes : Verdict → List ℕ
verdict_bytes Reject = 0 ∷ []
verdict_bytes Accept = 1 ∷ []

back : (v : Verdict) → Unit {0} → (rest : List ℕ) → record_of verdict_layout (verdict_bytes v ++ rest) ≡ Ok (v, rest)
unfolding places_of places_from
back Reject fit rest = record_back verdict_layout 0 rest rest (record {}) Reject refl refl refl
back Accept fit rest = record_back verdict_layout 1 rest rest (record {}) Accept refl refl refl

by_map : (map : ℕ) (body rest : List ℕ) (n : VerdictNumbers) (v : Verdict) → nat_lt map 2 ≡ true → fields_of verdict_layout.taken (places_of 0) verdict_layout.absent body ≡ Ok (n, rest) → verdict_layout.made map n ≡ Ok v → map ∷ body ≡ verdict_bytes v ++ rest
unfolding places_of places_from
by_map zero body rest n v known fields made =
    let is : Reject ≡ v = cc made in
    ap (λ l. 0 ∷ l) (same_parts fields).1 ∙ ap (λ x. verdict_bytes x ++ rest) is
by_map (suc zero) body rest n v known fields made =
    let is : Accept ≡ v = cc made in
    ap (λ l. 1 ∷ l) (same_parts fields).1 ∙ ap (λ x. verdict_bytes x ++ rest) is
by_map (suc (suc map)) body rest n v known fields made = absurd (omega (arith, ltb-true (suc (suc map)) 2 known))

kept : (bytes : List ℕ) → Octets bytes → (v : Verdict) (rest : List ℕ) → record_of verdict_layout bytes ≡ Ok (v, rest) → bytes ≡ verdict_bytes v ++ rest
kept bytes all v rest same =
    let parts = record_kept verdict_layout bytes all v rest same in
    parts.bytes_are ∙ by_map parts.map parts.body rest parts.numbers v parts.known parts.fields parts.made

pub verdict_undoing : RecordLaws (λ (v : Verdict). Unit {0}) (record_of verdict_layout) verdict_bytes
verdict_undoing = record { read_back = back; written_back = kept }
