-- A prefix range is read back from its record, and the record is written back.
use Rattle.std.specs.Prelude.{◌≡◌, ℕ, zero, suc, ◌+◌, ◌≤◌, cond, List, [], ◌∷◌, ◌++◌, length, Ok, Result, ◌==◌, refl}
use Rattle.std.proofs.Common.{sym, ap, ◌∙◌, arith}
use Rattle.std.proofs.lemmas.List.{append_assoc, append-nil}
use Rattle.std.proofs.lemmas.Bool.{ne_eqb}
use Rattle.supplied.specs.declared.errors.MakeError.{MakeError}
use Rattle.supplied.specs.MadeRanges.{made_range, range_made, range_numbers_lem}
use Rattle.supplied.specs.declared.ranges.PrefixRange.{PrefixRange}
use Rattle.fields.specs.Fields.{given_of, given_bytes}
use Rattle.fields.specs.Layouts.{record_of}
use Rattle.fields.specs.Reading.{◌>>=◌}
use Rattle.fields.specs.Undoing.{RecordLaws}
use Rattle.fields.proofs.FieldBytes.{AllFit}
use Rattle.fields.proofs.GivenFields.{Fit}
use Rattle.fields.proofs.GivenRecords.{map_of, body_of, end_of, given_record_laws}
use Rattle.records.specs.declared.ranges.RangeNumbers.{RangeNumbers}
use Rattle.records.specs.RangeRecords.{range_numbers, range_field, range_layout, range_map, range_bytes}

abbrev width_at : ℕ → ℕ
width_at place = cond (place == 0) 4 1

abbrev absent_at : RangeNumbers → ℕ → ℕ
absent_at n place = cond (place == 0) n.address (cond (place == 1) n.length (cond (place == 2) n.low n.high))

abbrev put : RangeNumbers → ℕ → ℕ → RangeNumbers
put n place v =
    cond (place == 0) (range_numbers v n.length n.low n.high)
    (cond (place == 1) (range_numbers n.address v v v)
    (cond (place == 2) (range_numbers n.address n.length v v) (range_numbers n.address n.length n.low v)))

reads : (n : RangeNumbers) (place : ℕ) (bytes : List ℕ) → range_field n place bytes ≡ ◌>>=◌ (given_of (width_at place) (absent_at n place) bytes) (λ q. Ok (put n place q.0, q.1))
reads n zero bytes = refl
reads n (suc zero) bytes = refl
reads n (suc (suc zero)) bytes = refl
reads n (suc (suc (suc place))) bytes =
    let past = suc (suc (suc place)) in
    rw (ne_eqb past 0 (λ e. omega arith), ne_eqb past 1 (λ e. omega arith), ne_eqb past 2 (λ e. omega arith))

-- until low is read it is the prefix length, and until high is read it is low
abbrev Known : RangeNumbers → ℕ → Type 0
Known n place = (place ≤ 1 → n.low ≡ n.length) × (place ≤ 2 → n.high ≡ n.low)

next : (n : RangeNumbers) (place v : ℕ) → Known n place → Known (put n place v) (place + 1)
next n zero v known = (λ h. known.0 (omega arith), λ h. known.1 (omega arith))
next n (suc zero) v known = (λ h. refl, λ h. refl)
next n (suc (suc zero)) v known = (λ h. absurd (omega arith), λ h. absurd (omega arith))
next n (suc (suc (suc place))) v known = (λ h. absurd (omega arith), λ h. absurd (omega arith))

stays : (n : RangeNumbers) (place : ℕ) → Known n place → put n place (absent_at n place) ≡ n
stays n zero known = refl
stays n (suc zero) known =
    let low = known.0 (omega arith) in
    let high = known.1 (omega arith) in
    ap (λ v. range_numbers n.address n.length v n.length) (sym low)
    ∙ ap (λ v. range_numbers n.address n.length n.low v) (sym low ∙ sym high)
stays n (suc (suc zero)) known =
    ap (λ v. range_numbers n.address n.length n.low v) (sym (known.1 (omega arith)))
stays n (suc (suc (suc place))) known =
    let past = suc (suc (suc place)) in
    rw (ne_eqb past 0 (λ e. omega arith), ne_eqb past 1 (λ e. omega arith), ne_eqb past 2 (λ e. omega arith))

abbrev values_of : PrefixRange → List ℕ
values_of r = r.address ∷ r.length ∷ r.low ∷ r.high ∷ []

abbrev start : RangeNumbers
start = range_numbers 0 0 0 0

abbrev made : RangeNumbers → Result PrefixRange MakeError
made n = made_range n.address n.length n.low n.high

fitting : (r : PrefixRange) → Unit {0} → AllFit (Fit width_at absent_at put) 0 (values_of r)
fitting r fit =
    (omega (arith, r.bound), (omega (arith, r.from, r.order, r.width), (omega (arith, r.order, r.width), (omega (arith, r.width), tt))))

made_of : (vs : List ℕ) → length vs ≡ 4 → (r : PrefixRange) → made (end_of 4 (omega arith) width_at absent_at put start range_field made vs) ≡ Ok r → vs ≡ values_of r
made_of [] size r h = absurd (omega arith)
made_of (a ∷ []) size r h = absurd (omega arith)
made_of (a ∷ l ∷ []) size r h = absurd (omega arith)
made_of (a ∷ l ∷ low ∷ []) size r h = absurd (omega arith)
made_of (a ∷ l ∷ low ∷ high ∷ []) size r h =
    let same = range_numbers_lem a l low high r h in
    let first = same.0 in
    let second = same.1 in
    let third = same.2 in
    let fourth = same.3 in
    cc
made_of (a ∷ l ∷ low ∷ high ∷ v ∷ vs) size r h = absurd (omega arith)

-- four fields, one behind the other
in_a_row : (a b c d : List ℕ) → a ++ b ++ c ++ d ≡ a ++ (b ++ (c ++ (d ++ [])))
in_a_row a b c d = simp (append_assoc, append-nil)

written : (r : PrefixRange) → range_bytes r ≡ map_of 4 (omega arith) width_at absent_at put start range_field made (values_of r) ∷ body_of 4 (omega arith) width_at absent_at put start range_field made (values_of r)
written r =
    let map : range_map r ≡ map_of 4 (omega arith) width_at absent_at put start range_field made (values_of r) = omega arith in
    let a = given_bytes 4 0 r.address in
    let b = given_bytes 1 0 r.length in
    let c = given_bytes 1 r.length r.low in
    let d = given_bytes 1 r.low r.high in
    ap (λ m. m ∷ (a ++ b ++ c ++ d)) map
    ∙ ap (λ l. map_of 4 (omega arith) width_at absent_at put start range_field made (values_of r) ∷ l) (in_a_row a b c d)

pub range_undoing : RecordLaws (λ (r : PrefixRange). Unit {0}) (record_of range_layout) range_bytes
range_undoing =
    given_record_laws 4 (omega arith) width_at absent_at put start range_field made reads Known (λ h. refl, λ h. refl) next stays (λ r. Unit {0}) range_bytes values_of (λ r. refl) fitting range_made made_of written
