-- The meet of two prefix ranges holds exactly the points that both hold, and there is none exactly when no point is in both.
use Rattle.std.specs.Prelude.{◌≡◌, ℕ, ◌-◌, ◌^◌, ◌<◌, ◌≤◌, min, max, true, false, ◌&&◌, leb, Some, None, Decides, ◌≢◌, nat_le}
use Rattle.std.proofs.Common.{⊎_elim, arith}
use Rattle.std.proofs.lemmas.Bool.{leb-true, leb-false, and_parts, and_cases, cases_lt, cond_both, both_ways}
use Rattle.std.proofs.lemmas.Bool.Decides.{same_from_decides, Decides-like, Decides-and}
use Rattle.supplied.specs.Making.{if_some, if_none}
use Rattle.supplied.specs.Multiples.{multiples_apart, finer_multiple}
use Rattle.supplied.specs.Prefixes.{agree, agree-from, agree-upto, agreeing}
use Rattle.supplied.specs.Ranges.{Range, Point, range_holds, range_meet, narrowed, narrow_to, overlaps}
use Rattle.supplied.specs.RangeHolds.{Held, decides_held}
use Rattle.supplied.specs.RangeInside.{prefix_ends}

module _ (W : ℕ) where
  narrow_held : (a b : Range W) (t : overlaps W a b ≡ true) → b.length ≤ a.length → (p : Point W) → Held W (narrow_to W a b t) p → Held W a p × Held W b p
  narrow_held a b t le p h =
      let g = (and_parts (agree W b.length a.address b.address) (nat_le (max a.low b.low) (min a.high b.high)) t).0 in
      let from = agree-from W b.length b.address a.address b.zeros g in
      let upto = prefix_ends W a b le (agree-upto W b.length b.address a.address b.zeros g) in (
        record { low = omega (arith, h.low); high = omega (arith, h.high); from = h.from; upto = h.upto },
        record {
          low = omega (arith, h.low);
          high = omega (arith, h.high);
          from = omega (arith, h.from);
          upto = omega (arith, h.upto);
        },
      )

  both_held : (a b : Range W) (t : overlaps W a b ≡ true) (p : Point W) → Held W a p × Held W b p → Held W (narrow_to W a b t) p
  both_held a b t p h = record {
    low = omega (arith, h.0.low, h.1.low);
    high = omega (arith, h.0.high, h.1.high);
    from = h.0.from;
    upto = h.0.upto;
  }

  decides_both : (a b : Range W) (p : Point W) → Decides (range_holds W a p && range_holds W b p) (Held W a p × Held W b p)
  decides_both a b p = Decides-and (range_holds W a p) (range_holds W b p) (decides_held W a p) (decides_held W b p)

  narrowed-holds : (a b m : Range W) → b.length ≤ a.length → narrowed W a b ≡ Some m → (p : Point W) → Decides (range_holds W m p) (Held W a p × Held W b p)
  narrowed-holds a b m le h p =
      let (t, e) = if_some (overlaps W a b) (narrow_to W a b) m h in
      let n = narrow_to W a b t in
      rw (← e) (Decides-like (range_holds W n p) (narrow_held a b t le p) (both_held a b t p) (decides_held W n p))

  -- where both hold a point, the longer prefix begins under the shorter
  begins_under : (a b : Range W) → b.length ≤ a.length → (p : Point W) → Held W a p → Held W b p → agree W b.length a.address b.address ≡ true
  begins_under a b le p ha hb =
      let s = 2 ^ (W - a.length) in
      let z = finer_multiple b.address (W - a.length) (W - b.length) (omega arith) b.zeros in
      let from : b.address ≤ a.address = ⊎_elim
      (λ (lt : a.address < b.address). absurd (omega (arith, multiples_apart s a.address b.address a.zeros z lt, ha.upto, hb.from)))
      (λ (ge : b.address ≤ a.address). ge) (cases_lt a.address b.address) in
      agreeing W b.length b.address a.address b.zeros from (omega (arith, ha.from, hb.upto))

  narrowed_none : (a b : Range W) → b.length ≤ a.length → narrowed W a b ≡ None → (p : Point W) → Held W a p → Held W b p → ⊥
  narrowed_none a b le h p ha hb =
      let g = agree W b.length a.address b.address in
      let l = leb (max a.low b.low) (min a.high b.high) in
      ⊎_elim (λ (f : g ≡ false). both_ways g f (begins_under a b le p ha hb))
      (λ (f : l ≡ false). omega (arith, leb-false (max a.low b.low) (min a.high b.high) f, ha.low, ha.high, hb.low, hb.high))
      (and_cases g l (if_none (overlaps W a b) (narrow_to W a b) h))

  pub meet-holds : (a b m : Range W) → range_meet W a b ≡ Some m → (p : Point W) → range_holds W m p ≡ (range_holds W a p && range_holds W b p)
  meet-holds a b m h p =
      same_from_decides (range_holds W m p) (range_holds W a p && range_holds W b p)
      (cond_both (nat_le b.length a.length) (narrowed W a b) (narrowed W b a) (λ o. o ≡ Some m → Decides (range_holds W m p) (Held W a p × Held W b p))
      (λ t e. narrowed-holds a b m (leb-true b.length a.length t) e p)
      (λ f e. let le : a.length ≤ b.length = omega (arith, leb-false b.length a.length f) in
      Decides-like (range_holds W m p) (λ x. (x.1, x.0)) (λ x. (x.1, x.0)) (narrowed-holds b a m le e p)) h)
      (decides_both a b p)

  pub no_meet : (a b : Range W) → range_meet W a b ≡ None → (p : Point W) → Held W a p → Held W b p → ⊥
  no_meet a b h p ha hb =
      cond_both (nat_le b.length a.length) (narrowed W a b) (narrowed W b a) (λ o. o ≢ None)
      (λ t e. narrowed_none a b (leb-true b.length a.length t) e p ha hb)
      (λ f e. narrowed_none b a (omega (arith, leb-false b.length a.length f)) e p hb ha) h
