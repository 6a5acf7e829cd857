-- A span is read back from its record, and the record is written back, for every top.
use Rattle.std.specs.Prelude.{◌≡◌, ℕ, zero, suc, ◌+◌, ◌*◌, ◌^◌, ◌<◌, ◌≤◌, cond, List, [], ◌∷◌, ◌++◌, length, Ok, Result, ◌==◌, refl}
use Rattle.std.proofs.Common.{ap, ◌∙◌, inl, inr, arith}
use Rattle.std.proofs.lemmas.List.{append-nil}
use Rattle.std.proofs.lemmas.Bool.{ne_eqb, lt-ltb, le-ltb, cases_lt}
use Rattle.supplied.specs.declared.errors.MakeError.{MakeError}
use Rattle.supplied.specs.MadeSpans.{made_span, span_made, span_numbers_lem}
use Rattle.supplied.specs.declared.spans.Span.{Span}
use Rattle.fields.specs.Fields.{given_of, given_bytes, given_bit}
use Rattle.fields.specs.Layouts.{record_of}
use Rattle.fields.specs.Reading.{◌>>=◌}
use Rattle.fields.specs.Undoing.{RecordLaws}
use Rattle.fields.proofs.FieldBytes.{AllFit}
use Rattle.fields.proofs.GivenFields.{Fit}
use Rattle.fields.proofs.GivenRecords.{map_of, body_of, end_of, given_record_laws}
use Rattle.records.specs.declared.spans.SpanNumbers.{SpanNumbers}
use Rattle.records.specs.SpanRecords.{span_width, span_numbers, span_field, span_layout, span_bytes, SpanFits}

-- a number up to the top has room in the bytes of an end
roomy : (top n : ℕ) → n ≤ top → n < 2 ^ 32 → n < 256 ^ span_width top
roomy top n below small =
    elim (cases_lt top 256) [
      | inl h ↦ rw (lt-ltb top 256 h) (omega arith)
      | inr g ↦ elim (cases_lt top 65536) [
        | inl h ↦ rw (le-ltb top 256 g, lt-ltb top 65536 h) (omega arith)
        | inr h ↦ rw (le-ltb top 256 g, le-ltb top 65536 h) small
      ]
    ]

module _ (TOP : ℕ) where
  abbrev width_at : ℕ → ℕ
  width_at place = span_width TOP

  abbrev absent_at : SpanNumbers TOP → ℕ → ℕ
  absent_at n place = cond (place == 0) n.low.0 n.high.0

  abbrev put : SpanNumbers TOP → ℕ → ℕ → SpanNumbers TOP
  put n place v = cond (place == 0) (span_numbers TOP v n.high.0) (span_numbers TOP n.low.0 v)

  reads : (n : SpanNumbers TOP) (place : ℕ) (bytes : List ℕ) → span_field TOP n place bytes ≡ ◌>>=◌ (given_of (width_at place) (absent_at n place) bytes) (λ q. Ok (put n place q.0, q.1))
  reads n zero bytes = refl
  reads n (suc place) bytes = rw (ne_eqb (suc place) 0 (λ e. omega arith))

  abbrev Known : SpanNumbers TOP → ℕ → Type 0
  Known n place = Unit {0}

  stays : (n : SpanNumbers TOP) (place : ℕ) → Known n place → put n place (absent_at n place) ≡ n
  stays n zero known = refl
  stays n (suc place) known = rw (ne_eqb (suc place) 0 (λ e. omega arith))

  abbrev values_of : Span TOP → List ℕ
  values_of s = s.low ∷ s.high ∷ []

  abbrev start : SpanNumbers TOP
  start = span_numbers TOP 0 TOP

  abbrev made : SpanNumbers TOP → Result (Span TOP) MakeError
  made n = made_span TOP n.low.0 n.high.0

  fitting : (s : Span TOP) → SpanFits TOP s → AllFit (Fit width_at absent_at put) 0 (values_of s)
  fitting s fit =
      let order = s.order in
      let top = s.top in
      (roomy TOP s.low (omega arith) (omega arith), (roomy TOP s.high top fit, tt))

  made_of : (vs : List ℕ) → length vs ≡ 2 → (s : Span TOP) → made (end_of 2 (omega arith) width_at absent_at put start (span_field TOP) made vs) ≡ Ok s → vs ≡ values_of s
  made_of [] size s h = absurd (omega arith)
  made_of (low ∷ []) size s h = absurd (omega arith)
  made_of (low ∷ high ∷ []) size s h =
      let same = span_numbers_lem TOP low high s h in
      let first = same.0 in
      let second = same.1 in
      cc
  made_of (low ∷ high ∷ v ∷ vs) size s h = absurd (omega arith)

  in_a_row : (a b : List ℕ) → a ++ b ≡ a ++ (b ++ [])
  in_a_row a b = simp append-nil

  written : (s : Span TOP) → span_bytes TOP s ≡ map_of 2 (omega arith) width_at absent_at put start (span_field TOP) made (values_of s) ∷ body_of 2 (omega arith) width_at absent_at put start (span_field TOP) made (values_of s)
  written s =
      let map : given_bit 0 s.low + 2 * given_bit TOP s.high ≡ map_of 2 (omega arith) width_at absent_at put start (span_field TOP) made (values_of s) = omega arith in
      let a = given_bytes (span_width TOP) 0 s.low in
      let b = given_bytes (span_width TOP) TOP s.high in
      ap (λ m. m ∷ (a ++ b)) map
      ∙ ap (λ l. map_of 2 (omega arith) width_at absent_at put start (span_field TOP) made (values_of s) ∷ l) (in_a_row a b)

  pub span_undoing : RecordLaws (SpanFits TOP) (record_of (span_layout TOP)) (span_bytes TOP)
  span_undoing =
      given_record_laws 2 (omega arith) width_at absent_at put start (span_field TOP) made reads Known tt (λ n place v known. tt) stays (SpanFits TOP) (span_bytes TOP) values_of (λ s. refl) fitting (span_made TOP) made_of written
