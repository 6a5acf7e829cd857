-- Walks to the chosen edge of a span.
use Rattle.std.specs.Prelude.{◌≡◌, ℕ, ◌+◌, ◌≤◌, List, length}
use Rattle.std.proofs.Common.{arith}
use mathlib.Core.List.{Memᴰ}
use Rattle.family.specs.Families.{Choice, still, toward, moved, walked, AllFrom}
use Rattle.supplied.specs.Edges.{edge_of, edge_reached}
use Rattle.supplied.specs.Spans.{first_number, span_holds, span_shifted}
use Rattle.supplied.specs.SpanLaws.{low, past, span_laws}
use Rattle.supplied.specs.declared.spans.Span.{Span}
use Rattle.supplied.specs.declared.spans.SpanPoint.{SpanPoint}

module _ (TOP : ℕ) where
  pub number_reached : (p : SpanPoint TOP) (c : Choice (Span TOP)) → p.value ≡ 0 → edge_of (low TOP) (past TOP) c ≤ TOP → (moved (span_shifted TOP) p 1 c).value ≡ edge_of (low TOP) (past TOP) c
  number_reached p still z h = z
  number_reached p (toward e r) z h = edge_reached (low TOP) (past TOP) (TOP + 1) e r p.value (omega arith)

  pub reached : (p : SpanPoint TOP) (rs : List (Span TOP)) → (cs : List (Choice (Span TOP))) × (length cs ≡ 1) × AllFrom rs cs × ((r : Span TOP) → Memᴰ r rs → span_holds TOP r (walked (span_shifted TOP) (first_number TOP) 1 cs) ≡ span_holds TOP r p)
  reached = (span_laws TOP).reached (omega arith)
