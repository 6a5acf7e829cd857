-- The bytes that the record of each kind takes.
use Rattle.std.proofs.Common.{◌≡◌, ℕ, zero, suc, ◌+◌, ◌-◌, ◌*◌, ◌/◌, ◌%◌, ◌<◌, ◌≤◌, true, cond, ◌&&◌, eqb, ltb, List, [], ◌∷◌, length, sym, refl, ap, ◌∙◌, ⊎_elim, mul-zero, mul-suc, arith}
use lib.Count.{ones, ones_step}
use Rattle.std.proofs.lemmas.Bool.{eqb-true, ltb-true, ne_eqb, or_cases, and_parts}
use Rattle.supplied.specs.declared.actions.RouteAction.{RouteAction}
use Rattle.supplied.specs.declared.actions.Verdict.{Verdict}
use Rattle.supplied.specs.declared.ranges.PrefixRange.{PrefixRange}
use Rattle.supplied.specs.declared.spans.Span.{Span}
use Rattle.records.specs.declared.actions.ActionNumbers.{ActionNumbers}
use Rattle.records.specs.declared.ranges.RangeNumbers.{RangeNumbers}
use Rattle.records.specs.declared.spans.SpanNumbers.{SpanNumbers}
use Rattle.records.specs.declared.verdicts.VerdictNumbers.{VerdictNumbers}
use Rattle.records.specs.SpanRecords.{span_width, span_field, span_layout}
use Rattle.records.specs.VerdictRecords.{verdict_layout}
use Rattle.records.specs.ActionRecords.{action_field, action_layout, is_accept}
use Rattle.fields.specs.Fields.{field_of, given_of}
use Rattle.fields.specs.Layouts.{places_from, places_of, record_of}
use Rattle.records.specs.RangeRecords.{range_field, range_layout}
use Rattle.fields.specs.Reading.{Read}
use Rattle.fields.specs.Sizes.{TookBytes}
use Rattle.records.specs.Sizes.{range_size, action_size, span_size}
use Rattle.fields.proofs.Places.{parity, at_odd, at_even, count_places, places_count}
use Rattle.fields.proofs.Seen.{same_parts}
use Rattle.fields.proofs.Sizes.{Takes, field_takes, given_takes, then_made, widths, took_bytes}

-- fields of one width
abbrev same_width : ℕ → ℕ → ℕ
same_width width place = width

widths-same : (width : ℕ) (places : List ℕ) → widths (same_width width) places ≡ width * length places
widths-same width [] = sym (mul-zero width)
widths-same width (p ∷ places) = omega (arith, widths-same width places, mul-suc width (length places))

action_field_lem : (n : ActionNumbers) (place : ℕ) → Takes (same_width 4 place) (action_field n place)
action_field_lem n place = then_made 4 (field_of 4) _ (field_takes 4)

span_field_lem : (TOP : ℕ) (n : SpanNumbers TOP) (place : ℕ) → Takes (same_width (span_width TOP) place) (span_field TOP n place)
span_field_lem TOP n zero = then_made (span_width TOP) (given_of (span_width TOP) n.low.0) _ (given_takes (span_width TOP) n.low.0)
span_field_lem TOP n (suc place) =
    rw (ne_eqb (suc place) 0 (λ e. omega arith))
    (then_made (span_width TOP) (given_of (span_width TOP) n.high.0) _ (given_takes (span_width TOP) n.high.0))

verdict_field : (n : VerdictNumbers) (place : ℕ) → Takes (same_width 0 place) (verdict_layout.taken n place)
verdict_field n place bytes x rest same = omega (arith, ap length (same_parts same).1)

-- a field of a prefix range has one byte, and the address four
abbrev byte_or_word : ℕ → ℕ
byte_or_word place = cond (eqb place 0) 4 1

range_field_lem : (n : RangeNumbers) (place : ℕ) → Takes (byte_or_word place) (range_field n place)
range_field_lem n zero = then_made 4 (given_of 4 n.address) _ (given_takes 4 n.address)
range_field_lem n (suc zero) = then_made 1 (given_of 1 n.length) _ (given_takes 1 n.length)
range_field_lem n (suc (suc zero)) = then_made 1 (given_of 1 n.low) _ (given_takes 1 n.low)
range_field_lem n (suc (suc (suc place))) =
    let past = suc (suc (suc place)) in
    rw (ne_eqb past 0 (λ e. omega arith), ne_eqb past 1 (λ e. omega arith), ne_eqb past 2 (λ e. omega arith))
    (then_made 1 (given_of 1 n.high) _ (given_takes 1 n.high))

-- the fields behind the first have one byte each
bytes-only : (w p bits : ℕ) → 1 ≤ p → widths byte_or_word (places_from w p bits) ≡ length (places_from w p bits)
unfolding places_from
bytes-only zero p bits later = refl
bytes-only (suc w) p bits later =
    let rest = bytes-only w (p + 1) (bits / 2) (omega arith) in
    let one : byte_or_word p ≡ 1 = rw (ne_eqb p 0 (λ e. omega arith)) in
    ⊎_elim (λ odd. rw odd (omega arith)) (λ even. rw even rest) (parity bits)

range_whole : (map : ℕ) → range_layout.defined map ≡ true → range_size map ≡ 1 + widths byte_or_word (places_of map)
unfolding places_of
range_whole map known =
    let small = ltb-true map 16 known in
    let rest = bytes-only 7 1 (map / 2) (omega arith) in
    let count = count_places 7 1 (map / 2) (omega arith) in
    let step = ones_step map in
    ⊎_elim (λ odd. rw (at_odd 7 0 map odd) (omega arith)) (λ even. rw (at_even 7 0 map even) (omega arith)) (parity map)

action_whole : (map : ℕ) → action_layout.defined map ≡ true → action_size map ≡ 1 + widths (same_width 4) (places_of (map - map % 2))
action_whole map known =
    let small : map < 8 = ⊎_elim (λ h. omega (arith, eqb-true map 0 h)) (λ h. ltb-true map 8 (and_parts (ltb map 8) (is_accept map) h).0) (or_cases (eqb map 0) (ltb map 8 && is_accept map) known) in
    let half : (map - map % 2) / 2 ≡ map / 2 = omega arith in
    let low : (map - map % 2) % 2 ≡ 0 = omega arith in
    let fields : ones (map - map % 2) ≡ ones (map / 2) = ones_step (map - map % 2) ∙ rw (half, low) (omega arith) in
    omega (arith, widths-same 4 (places_of (map - map % 2)), places_count (map - map % 2) (omega arith), ones_step map, fields)

span_whole : (TOP map : ℕ) → (span_layout TOP).defined map ≡ true → span_size TOP map ≡ 1 + widths (same_width (span_width TOP)) (places_of map)
span_whole TOP map known =
    let small = ltb-true map 4 known in
    let count = places_count map (omega arith) in
    ap (λ n. 1 + n) (ap (λ n. span_width TOP * n) (sym count) ∙ sym (widths-same (span_width TOP) (places_of map)))

verdict_whole : (map : ℕ) → verdict_layout.defined map ≡ true → action_size map ≡ 1 + widths (same_width 0) (places_of 0)
unfolding places_of places_from ones
verdict_whole zero known = refl
verdict_whole (suc zero) known = refl
verdict_whole (suc (suc map)) known = absurd (omega (arith, ltb-true (suc (suc map)) 2 known))

pub range_took : (bytes : List ℕ) (read : Read PrefixRange) → read ≡ record_of range_layout bytes → TookBytes range_size bytes read
range_took = took_bytes range_layout byte_or_word range_size range_field_lem range_whole

pub action_took : (bytes : List ℕ) (read : Read RouteAction) → read ≡ record_of action_layout bytes → TookBytes action_size bytes read
action_took = took_bytes action_layout (same_width 4) action_size action_field_lem action_whole

pub span_took : (TOP : ℕ) (bytes : List ℕ) (read : Read (Span TOP)) → read ≡ record_of (span_layout TOP) bytes → TookBytes (span_size TOP) bytes read
span_took TOP = took_bytes (span_layout TOP) (same_width (span_width TOP)) (span_size TOP) (span_field_lem TOP) (span_whole TOP)

pub verdict_took : (bytes : List ℕ) (read : Read Verdict) → read ≡ record_of verdict_layout bytes → TookBytes action_size bytes read
verdict_took = took_bytes verdict_layout (same_width 0) action_size verdict_field verdict_whole
