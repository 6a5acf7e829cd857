-- Spans of the numbers up to a top: which they hold, when one is inside another, their meet and shifts.
use Rattle.std.specs.Prelude.{◌≡◌, ℕ, ◌+◌, ◌≤◌, min, max, Bool, true, cond, ◌&&◌, Option, ◌==◌, nat_le}
use Rattle.std.proofs.Common.{sym, subst, arith}
use mathlib.Core.HLevel.{is_prop→PathP}
use Rattle.std.proofs.Math.Bridge.{le_prop}
use Rattle.std.proofs.lemmas.Bool.{leb-true}
use Rattle.family.specs.declared.edges.Edge.{Edge}
use Rattle.supplied.specs.Making.{if_true}
use Rattle.supplied.specs.Edges.{to_edge, edge_below}
use Rattle.supplied.specs.declared.spans.Span.{Span}
use Rattle.supplied.specs.declared.spans.SpanPoint.{SpanPoint}

module _ (TOP : ℕ) where
  -- spans with the same ends are the same, and so are points with the same number
  pub same_span : (a b : Span TOP) → a.low ≡ b.low → a.high ≡ b.high → a ≡ b
  same_span a b lo hi =
      λ i. record {
        low = lo i;
        high = hi i;
        order = is_prop→PathP (λ j. lo j ≤ hi j) (λ j. le_prop) a.order b.order i;
        top = is_prop→PathP (λ j. hi j ≤ TOP) (λ j. le_prop) a.top b.top i;
      }

  pub same_span_point : (p q : SpanPoint TOP) → p.value ≡ q.value → p ≡ q
  same_span_point p q v =
      λ i. record { value = v i; top = is_prop→PathP (λ j. v j ≤ TOP) (λ j. le_prop) p.top q.top i }

  abbrev pub whole_span : Span TOP
  whole_span = record { low = 0; high = TOP; order = omega arith; top = omega arith }

  abbrev pub first_number : SpanPoint TOP
  first_number = record { value = 0; top = omega arith }

  abbrev pub span_holds : Span TOP → SpanPoint TOP → Bool
  span_holds r p = nat_le r.low p.value && nat_le p.value r.high

  abbrev pub span_inside : Span TOP → Span TOP → Bool
  span_inside a b = nat_le b.low a.low && nat_le a.high b.high

  abbrev pub meet_span : (a b : Span TOP) → nat_le (max a.low b.low) (min a.high b.high) ≡ true → Span TOP
  meet_span a b t = record {
    low = max a.low b.low;
    high = min a.high b.high;
    order = leb-true (max a.low b.low) (min a.high b.high) t;
    top = omega (arith, a.top);
  }

  abbrev pub span_meet : Span TOP → Span TOP → Option (Span TOP)
  span_meet a b = if_true (nat_le (max a.low b.low) (min a.high b.high)) (meet_span a b)

  abbrev pub shifted_number : Span TOP → Edge → ℕ → ℕ
  shifted_number r e v = to_edge (TOP + 1) r.low (r.high + 1) e v

  pub number_below : (r : Span TOP) (e : Edge) (p : SpanPoint TOP) → shifted_number r e p.value ≤ TOP
  number_below r e p =
      let h = edge_below (TOP + 1) r.low (r.high + 1) e p.value (omega (arith, r.order, r.top)) (omega (arith, p.top)) in
      omega arith

  -- the one axis is the number itself
  abbrev pub span_shifted : SpanPoint TOP → ℕ → Edge → Span TOP → SpanPoint TOP
  span_shifted p axis e r =
      cond (axis == 1) (record { value = shifted_number r e p.value; top = number_below r e p }) p

  pub at_edge : (p q : SpanPoint TOP) (axis : ℕ) (e : Edge) (r : Span TOP) → axis ≡ 1 → q.value ≡ shifted_number r e p.value → q ≡ span_shifted p axis e r
  at_edge p q axis e r is_one v =
      subst (λ (a : ℕ). q ≡ span_shifted p a e r) (sym is_one) (same_span_point q (span_shifted p 1 e r) v)
