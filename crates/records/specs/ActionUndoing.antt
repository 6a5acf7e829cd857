-- A route action is read back from its record, and the record is written back.
use Rattle.std.specs.Prelude.{◌≡◌, ℕ, zero, suc, ◌^◌, ◌<◌, true, cond, ◌&&◌, List, [], ◌∷◌, ◌++◌, Some, None, Ok, ◌==◌, nat_lt, refl}
use Rattle.std.proofs.Common.{sym, ap, ◌∙◌, ⊎_elim, arith}
use Rattle.std.proofs.lemmas.List.{append_assoc}
use Rattle.std.proofs.lemmas.Bool.{eqb-true, ltb-true, or_cases, and_parts}
use Rattle.supplied.specs.declared.actions.RouteAction.{RouteAction}
use Rattle.supplied.specs.declared.actions.RouteAction.TheVariants.{Reject, Accept}
use Rattle.fields.specs.Fields.{field_of, bytes_of, Octets}
use Rattle.fields.specs.Layouts.{places_from, places_of, fields_of, record_of}
use Rattle.fields.specs.Reading.{◌>>=◌}
use Rattle.fields.specs.Undoing.{RecordLaws}
use Rattle.fields.proofs.Inversion.{both_steps}
use Rattle.fields.proofs.NumberBytes.{field_back, field_kept}
use Rattle.fields.proofs.RecordBytes.{record_back, record_kept}
use Rattle.fields.proofs.Seen.{same_parts}
use Rattle.records.specs.declared.actions.ActionNumbers.{ActionNumbers}
use Rattle.records.specs.ActionRecords.{action_numbers, action_field, action_layout, action_bytes, ActionFits, is_accept}

abbrev none : ActionNumbers
none = action_numbers None None

-- the numbers with one more
abbrev with_number : ActionNumbers → ℕ → ℕ → ActionNumbers
with_number n place v = cond (place == 1) (action_numbers (Some v) n.med) (action_numbers n.preference (Some v))

number_back : (n : ActionNumbers) (place v : ℕ) → v < 2 ^ 32 → (rest : List ℕ) → action_field n place (bytes_of 4 v ++ rest) ≡ Ok (with_number n place v, rest)
number_back n place v small rest =
    ap (λ r. ◌>>=◌ r (λ q. Ok (with_number n place q.0, q.1))) (field_back 4 v small rest)

-- one number, and the fields behind it
first_back : (n : ActionNumbers) (place v : ℕ) → v < 2 ^ 32 → (places : List ℕ) (rest : List ℕ) → fields_of action_field (place ∷ places) n (bytes_of 4 v ++ rest) ≡ fields_of action_field places (with_number n place v) rest
first_back n place v small places rest =
    ap (λ r. ◌>>=◌ r (λ q. fields_of action_field places q.0 q.1)) (number_back n place v small rest)

back : (a : RouteAction) → ActionFits a → (rest : List ℕ) → record_of action_layout (action_bytes a ++ rest) ≡ Ok (a, rest)
unfolding places_of places_from
back Reject fit rest = record_back action_layout 0 rest rest none Reject refl refl refl
back (Accept None None) fit rest = record_back action_layout 1 rest rest none (Accept None None) refl refl refl
back (Accept (Some p) None) fit rest =
    record_back action_layout 3 ((bytes_of 4 p ++ []) ++ rest) rest (action_numbers (Some p) None) (Accept (Some p) None) refl
    (first_back none 1 p fit.0 [] rest) refl
back (Accept None (Some m)) fit rest =
    record_back action_layout 5 (bytes_of 4 m ++ rest) rest (action_numbers None (Some m)) (Accept None (Some m)) refl
    (first_back none 2 m fit.1 [] rest) refl
back (Accept (Some p) (Some m)) fit rest =
    record_back action_layout 7 ((bytes_of 4 p ++ bytes_of 4 m) ++ rest) rest (action_numbers (Some p) (Some m)) (Accept (Some p) (Some m)) refl
    (first_back none 1 p fit.0 (2 ∷ []) (bytes_of 4 m ++ rest) ∙ first_back (action_numbers (Some p) None) 2 m fit.1 [] rest) refl

-- what was read of one number
record NumberKept (n : ActionNumbers) (place : ℕ) (bytes : List ℕ) (m : ActionNumbers) (rest : List ℕ) : Type 0 where
  value : ℕ
  end : m ≡ with_number n place value
  bytes_are : bytes ≡ bytes_of 4 value ++ rest
  octets : Octets rest

number_kept : (n : ActionNumbers) (place : ℕ) (bytes : List ℕ) → Octets bytes → (m : ActionNumbers) (rest : List ℕ) → action_field n place bytes ≡ Ok (m, rest) → NumberKept n place bytes m rest
number_kept n place bytes all m rest same =
    let read = both_steps (field_of 4 bytes) _ (m, rest) same in
    let parts = same_parts read.2 in
    let spelt = field_kept 4 bytes all read.0.0 rest (read.1 ∙ ap (λ l. Ok (read.0.0, l)) parts.1) in
    record { value = read.0.0; end = sym parts.0; bytes_are = spelt.bytes_are; octets = spelt.octets }

-- by the map of what was read
by_map : (map : ℕ) (body rest : List ℕ) (n : ActionNumbers) (a : RouteAction) → Octets body → action_layout.defined map ≡ true → fields_of action_field (places_of (action_layout.field_bits map)) none body ≡ Ok (n, rest) → action_layout.made map n ≡ Ok a → map ∷ body ≡ action_bytes a ++ rest
unfolding places_of places_from
by_map zero body rest n a all known fields made =
    let parts = same_parts fields in
    let is : Reject ≡ a = cc made in
    ap (λ l. 0 ∷ l) parts.1 ∙ ap (λ x. action_bytes x ++ rest) is
by_map (suc zero) body rest n a all known fields made =
    let parts = same_parts fields in
    let is : Accept n.preference n.med ≡ a = cc made in
    ap (λ l. 1 ∷ l) parts.1 ∙ ap (λ (q : ActionNumbers). action_bytes (Accept q.preference q.med) ++ rest) parts.0
    ∙ ap (λ x. action_bytes x ++ rest) is
by_map (suc (suc zero)) body rest n a all known fields made = cc
by_map (suc (suc (suc zero))) body rest n a all known fields made =
    let read = both_steps (action_field none 1 body) _ (n, rest) fields in
    let first = number_kept none 1 body all read.0.0 read.0.1 read.1 in
    let parts = same_parts read.2 in
    let is : Accept n.preference n.med ≡ a = cc made in
    ap (λ l. 3 ∷ l) (first.bytes_are ∙ ap (λ l. bytes_of 4 first.value ++ l) parts.1 ∙ sym (append_assoc (bytes_of 4 first.value) [] rest))
    ∙ ap (λ (q : ActionNumbers). action_bytes (Accept q.preference q.med) ++ rest) (sym first.end ∙ parts.0)
    ∙ ap (λ x. action_bytes x ++ rest) is
by_map (suc (suc (suc (suc zero)))) body rest n a all known fields made = cc
by_map (suc (suc (suc (suc (suc zero))))) body rest n a all known fields made =
    let read = both_steps (action_field none 2 body) _ (n, rest) fields in
    let first = number_kept none 2 body all read.0.0 read.0.1 read.1 in
    let parts = same_parts read.2 in
    let is : Accept n.preference n.med ≡ a = cc made in
    ap (λ l. 5 ∷ l) (first.bytes_are ∙ ap (λ l. bytes_of 4 first.value ++ l) parts.1)
    ∙ ap (λ (q : ActionNumbers). action_bytes (Accept q.preference q.med) ++ rest) (sym first.end ∙ parts.0)
    ∙ ap (λ x. action_bytes x ++ rest) is
by_map (suc (suc (suc (suc (suc (suc zero)))))) body rest n a all known fields made = cc
by_map (suc (suc (suc (suc (suc (suc (suc zero))))))) body rest n a all known fields made =
    let read = both_steps (action_field none 1 body) _ (n, rest) fields in
    let first = number_kept none 1 body all read.0.0 read.0.1 read.1 in
    let next = both_steps (action_field read.0.0 2 read.0.1) _ (n, rest) read.2 in
    let second = number_kept read.0.0 2 read.0.1 first.octets next.0.0 next.0.1 next.1 in
    let parts = same_parts next.2 in
    let is : Accept n.preference n.med ≡ a = cc made in
    let both : action_numbers (Some first.value) (Some second.value) ≡ n =
    ap (λ (q : ActionNumbers). action_numbers q.preference (Some second.value)) (sym first.end) ∙ sym second.end ∙ parts.0 in
    ap (λ l. 7 ∷ l)
    (first.bytes_are
    ∙ ap (λ l. bytes_of 4 first.value ++ l) (second.bytes_are ∙ ap (λ l. bytes_of 4 second.value ++ l) parts.1)
    ∙ sym (append_assoc (bytes_of 4 first.value) (bytes_of 4 second.value) rest))
    ∙ ap (λ (q : ActionNumbers). action_bytes (Accept q.preference q.med) ++ rest) both
    ∙ ap (λ x. action_bytes x ++ rest) is
by_map (suc (suc (suc (suc (suc (suc (suc (suc map)))))))) body rest n a all known fields made =
    let big = suc (suc (suc (suc (suc (suc (suc (suc map))))))) in
    ⊎_elim (λ h. absurd (omega (arith, eqb-true big 0 h))) (λ h. absurd (omega (arith, ltb-true big 8 (and_parts (nat_lt big 8) (is_accept big) h).0))) (or_cases (big == 0) (nat_lt big 8 && is_accept big) known)

kept : (bytes : List ℕ) → Octets bytes → (a : RouteAction) (rest : List ℕ) → record_of action_layout bytes ≡ Ok (a, rest) → bytes ≡ action_bytes a ++ rest
kept bytes all a rest same =
    let parts = record_kept action_layout bytes all a rest same in
    parts.bytes_are ∙ by_map parts.map parts.body rest parts.numbers a parts.octets parts.known parts.fields parts.made

pub action_undoing : RecordLaws ActionFits (record_of action_layout) action_bytes
action_undoing = record { read_back = back; written_back = kept }
