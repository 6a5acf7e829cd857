-- Prefix ranges over addresses of W bits are a family.
use Rattle.std.specs.Prelude.{◌≡◌, ℕ, ◌+◌, ◌-◌, ◌^◌, ◌<◌, ◌≤◌}
use Rattle.std.proofs.Common.{ap, le_refl, arith}
use Rattle.family.specs.Families.{FamilyLaws, Choice, still, toward, moved}
use Rattle.supplied.specs.Edges.{edge_of, edge_reached}
use Rattle.supplied.specs.Multiples.{cut_down}
use Rattle.supplied.specs.Ranges.{Range, Point, whole_range, first_route, range_holds, range_inside, range_meet, range_shifted}
use Rattle.supplied.specs.RangeHolds.{held, corner, corner-held, whole_holds}
use Rattle.supplied.specs.RangeInside as inside
use Rattle.supplied.specs.RangeMeet as meet
use Rattle.supplied.specs.RangeShifts as shifts
use Rattle.supplied.specs.RangeShifts.{low, past, begin, end}

pub range_laws : (W : ℕ) → FamilyLaws (whole_range W) (first_route W) 2 (range_holds W) (range_inside W) (range_meet W) (range_shifted W)
range_laws W = record {
  inhabited = λ r. (corner W r r.low (le_refl r.low) r.order, corner-held W r r.low (le_refl r.low) r.order);
  everything = whole_holds W;
  inside-holds = inside.inside-holds W;
  holds-inside = inside.holds-inside W;
  same_points = inside.same_points W;
  meet-holds = meet.meet-holds W;
  no_meet = λ a b h p ha hb. meet.no_meet W a b h p (held W a p ha) (held W b p hb);
  axes_low = omega arith;
  axes_high = omega arith;
  other_axis = shifts.other_axis W;
  reached = λ _. shifts.reached W length-reached address-reached;
}
  where
    -- a point at length 0 goes to the chosen length
    length-reached : (p : Point W) (c : Choice (Range W)) → p.length ≡ 0 → edge_of (low W) (past W) c ≤ W → (moved (range_shifted W) p 1 c).length ≡ edge_of (low W) (past W) c
    length-reached p still z h = z
    length-reached p (toward e r) z h = edge_reached (low W) (past W) (W + 1) e r p.length (omega arith)

    -- a point at address 0 goes to the chosen address, cut to its length
    address-reached : (p : Point W) (c : Choice (Range W)) → p.address ≡ 0 → edge_of (begin W) (end W) c < 2 ^ W → (moved (range_shifted W) p 2 c).address ≡ cut_down (2 ^ (W - p.length)) (edge_of (begin W) (end W) c)
    address-reached p still z h = omega arith
    address-reached p (toward e r) z h =
        ap (cut_down (2 ^ (W - p.length))) (edge_reached (begin W) (end W) (2 ^ W) e r p.address h)
