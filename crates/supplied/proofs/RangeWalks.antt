-- Walks to the chosen edges of prefix ranges.
use Rattle.std.specs.Prelude.{◌≡◌, ℕ, ◌+◌, ◌-◌, ◌^◌, ◌<◌, ◌≤◌, List, length}
use Rattle.std.proofs.Common.{ap, arith}
use mathlib.Core.List.{Memᴰ}
use Rattle.family.specs.Families.{Choice, still, toward, moved, walked, AllFrom}
use Rattle.supplied.specs.Edges.{edge_of, edge_reached, LastEdge}
use Rattle.supplied.specs.Multiples.{cut_down}
use Rattle.supplied.specs.Ranges.{Range, Point, first_route, range_holds, range_shifted}
use Rattle.supplied.specs.RangeShifts as shifts
use Rattle.supplied.specs.RangeShifts.{low, past, begin, end, walk, AtEdges}

module _ (W : ℕ) where
  -- a point at length 0 goes to the chosen length
  pub length-reached : (p : Point W) (c : Choice (Range W)) → p.length ≡ 0 → edge_of (low W) (past W) c ≤ W → (moved (range_shifted W) p 1 c).length ≡ edge_of (low W) (past W) c
  length-reached p still z h = z
  length-reached p (toward e r) z h = edge_reached (low W) (past W) (W + 1) e r p.length (omega arith)

  -- a point at address 0 goes to the chosen address, cut to its length
  pub address-reached : (p : Point W) (c : Choice (Range W)) → p.address ≡ 0 → edge_of (begin W) (end W) c < 2 ^ W → (moved (range_shifted W) p 2 c).address ≡ cut_down (2 ^ (W - p.length)) (edge_of (begin W) (end W) c)
  address-reached p still z h = omega arith
  address-reached p (toward e r) z h =
      ap (cut_down (2 ^ (W - p.length))) (edge_reached (begin W) (end W) (2 ^ W) e r p.address h)

  pub walk_at_edges : (rs : List (Range W)) (p : Point W) (c d : Choice (Range W)) → LastEdge (low W) (past W) p.length rs c → LastEdge (begin W) (end W) p.address rs d → AtEdges W rs p (walk W c d) c d
  walk_at_edges = shifts.walk_at_edges W length-reached address-reached

  pub reached : (p : Point W) (rs : List (Range W)) → (cs : List (Choice (Range W))) × (length cs ≡ 2) × AllFrom rs cs × ((r : Range W) → Memᴰ r rs → range_holds W r (walked (range_shifted W) (first_route W) 1 cs) ≡ range_holds W r p)
  reached = shifts.reached W length-reached address-reached
