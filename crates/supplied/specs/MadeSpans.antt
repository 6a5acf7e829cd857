-- The span that two ends make, and the point that a number makes, or why there is none.
use Rattle.std.specs.Prelude.{◌≡◌, ℕ, Some, None, Ok, Err, Option, Result, nat_le}
use Rattle.std.proofs.Math.Path.{refl, ap}
use Rattle.std.proofs.Common.{sym}
use Rattle.std.proofs.lemmas.Bool.{leb-true, le-leb}
use Rattle.supplied.specs.Making.{unless_fault, or_else, passed, refused, made, faultless}
use Rattle.supplied.specs.Spans.{same_span, same_span_point}
use Rattle.supplied.specs.declared.errors.MakeError.{MakeError}
use Rattle.supplied.specs.declared.errors.MakeError.TheVariants.{LowAboveHigh, AboveTop}
use Rattle.supplied.specs.declared.spans.Span.{Span}
use Rattle.supplied.specs.declared.spans.SpanPoint.{SpanPoint}

module _ (TOP : ℕ) where
  -- of two faults the first
  abbrev pub span_fault : (low high : ℕ) → Option MakeError
  span_fault low high = or_else (nat_le low high) LowAboveHigh (or_else (nat_le high TOP) AboveTop None)

  abbrev pub span_of : (low high : ℕ) → span_fault low high ≡ None → Span TOP
  span_of low high n =
      let first = passed (nat_le low high) LowAboveHigh (or_else (nat_le high TOP) AboveTop None) n in
      record {
        low = low;
        high = high;
        order = leb-true low high first.0;
        top = leb-true high TOP (passed (nat_le high TOP) AboveTop None first.1).0;
      }

  unfoldable pub made_span : (low high : ℕ) → Result (Span TOP) MakeError
  made_span low high = unless_fault (span_fault low high) (span_of low high)

  pub span_refused : (low high : ℕ) (e : MakeError) → span_fault low high ≡ Some e → made_span low high ≡ Err e
  unfolding made_span
  span_refused low high e h = refused (span_fault low high) (span_of low high) e h

  pub span_made : (s : Span TOP) → made_span s.low s.high ≡ Ok s
  unfolding made_span
  span_made s =
      made (span_fault s.low s.high) (span_of s.low s.high) s
      (rw (le-leb s.low s.high s.order, le-leb s.high TOP s.top))
      (λ n. same_span TOP (span_of s.low s.high n) s refl refl)

  -- a span that is made has the ends that it is made of
  pub span_numbers_lem : (low high : ℕ) (s : Span TOP) → made_span low high ≡ Ok s → (s.low ≡ low) × (s.high ≡ high)
  unfolding made_span
  span_numbers_lem low high s h =
      let f = (faultless (span_fault low high) (span_of low high) s h).1 in
      (ap (λ (q : Span TOP). q.low) (sym f), ap (λ (q : Span TOP). q.high) (sym f))

  abbrev pub point_fault : (value : ℕ) → Option MakeError
  point_fault value = or_else (nat_le value TOP) AboveTop None

  abbrev pub point_of : (value : ℕ) → point_fault value ≡ None → SpanPoint TOP
  point_of value n = record { value = value; top = leb-true value TOP (passed (nat_le value TOP) AboveTop None n).0 }

  unfoldable pub made_point : (value : ℕ) → Result (SpanPoint TOP) MakeError
  made_point value = unless_fault (point_fault value) (point_of value)

  pub point_refused : (value : ℕ) (e : MakeError) → point_fault value ≡ Some e → made_point value ≡ Err e
  unfolding made_point
  point_refused value e h = refused (point_fault value) (point_of value) e h

  pub point_made : (p : SpanPoint TOP) → made_point p.value ≡ Ok p
  unfolding made_point
  point_made p =
      made (point_fault p.value) (point_of p.value) p (rw (le-leb p.value TOP p.top))
      (λ n. same_span_point TOP (point_of p.value n) p refl)
