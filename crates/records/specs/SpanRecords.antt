-- The record of a span: bit 0 the low end, bit 1 the high end.
use Rattle.std.specs.Prelude.{ℕ, ◌+◌, ◌*◌, ◌^◌, ◌<◌, cond, List, [], ◌∷◌, ◌++◌, Ok, ◌==◌, nat_lt}
use Rattle.supplied.specs.MadeSpans.{made_span}
use Rattle.supplied.specs.declared.spans.Span.{Span}
use Rattle.fields.specs.Fields.{given_of, given_bytes, given_bit}
use Rattle.fields.specs.Layouts.{LayoutOf}
use Rattle.fields.specs.Reading.{Read, ◌>>=◌}
use Rattle.records.specs.declared.spans.End.{End}
use Rattle.records.specs.declared.spans.SpanNumbers.{SpanNumbers}

-- an end has one byte where the top is below 256, two where it is below 65,536, and else four
abbrev pub span_width : ℕ → ℕ
span_width top = cond (nat_lt top 256) 1 (cond (nat_lt top 65536) 2 4)

module _ (TOP : ℕ) where
  abbrev pub end_at : ℕ → End TOP
  end_at value = record { 0 = value }

  abbrev pub span_numbers : ℕ → ℕ → SpanNumbers TOP
  span_numbers low high = record { low = end_at low; high = end_at high }

  -- what stands before an end is read is its absent value: 0 for low, the top for high
  abbrev pub span_field : SpanNumbers TOP → ℕ → List ℕ → Read (SpanNumbers TOP)
  span_field n place bytes =
      cond (place == 0) (do
        (low, rest) ← given_of (span_width TOP) n.low.0 bytes
        Ok (span_numbers low n.high.0, rest))
      (do
        (high, rest) ← given_of (span_width TOP) n.high.0 bytes
        Ok (span_numbers n.low.0 high, rest))

  abbrev pub span_layout : LayoutOf (SpanNumbers TOP) (Span TOP)
  span_layout = record {
    absent = span_numbers 0 TOP;
    defined = λ map. nat_lt map 4;
    field_bits = λ map. map;
    taken = span_field;
    made = λ map n. made_span TOP n.low.0 n.high.0;
  }

  -- the record of a span: the map, then the ends that differ from their absent values
  abbrev pub span_bytes : Span TOP → List ℕ
  span_bytes s =
      ((given_bit 0 s.low + 2 * given_bit TOP s.high) ∷ []) ++ given_bytes (span_width TOP) 0 s.low ++ given_bytes (span_width TOP) TOP s.high

  -- an end has at most four bytes
  abbrev pub SpanFits : Span TOP → Type 0
  SpanFits s = s.high < 2 ^ 32
