-- A prefix range is inside another exactly when the other holds all its points.
use Rattle.std.specs.Prelude.{◌≡◌, ℕ, ◌+◌, ◌-◌, ◌^◌, ◌<◌, ◌≤◌, true, ◌&&◌, nat_le}
use Rattle.std.proofs.Common.{sym, ◌∙◌, ⊎_elim, le_refl, arith, pow_mono}
use Rattle.std.proofs.Math.Pow.{pow-lt}
use Rattle.std.proofs.lemmas.Bool.{leb-true, le-leb, and_parts, and_from, cases_lt}
use Rattle.supplied.specs.Multiples.{multiples_apart, finer_multiple, finer_power, sum_multiple}
use Rattle.supplied.specs.Prefixes.{agree, agree-from, agree-upto, agreeing}
use Rattle.supplied.specs.Ranges.{Range, Point, same_range, range_holds, range_inside}
use Rattle.supplied.specs.RangeHolds.{Held, held, holding, range_end, corner, corner-held}

module _ (W : ℕ) where
  pub record Within (a b : Range W) : Type 0 where
    pub low : b.low ≤ a.low
    pub high : a.high ≤ b.high
    pub length : b.length ≤ a.length
    pub from : b.address ≤ a.address
    pub upto : a.address < b.address + 2 ^ (W - b.length)

  pub within : (a b : Range W) → range_inside W a b ≡ true → Within a b
  within a b h =
      let g = agree W b.length a.address b.address in
      let first = and_parts (nat_le b.low a.low) (nat_le a.high b.high && (nat_le b.length a.length && g)) h in
      let second = and_parts (nat_le a.high b.high) (nat_le b.length a.length && g) first.1 in
      let third = and_parts (nat_le b.length a.length) g second.1 in
      record {
        low = leb-true b.low a.low first.0;
        high = leb-true a.high b.high second.0;
        length = leb-true b.length a.length third.0;
        from = agree-from W b.length b.address a.address b.zeros third.1;
        upto = agree-upto W b.length b.address a.address b.zeros third.1;
      }

  pub from-within : (a b : Range W) → Within a b → range_inside W a b ≡ true
  from-within a b h =
      let g = agree W b.length a.address b.address in
      and_from (nat_le b.low a.low) (nat_le a.high b.high && (nat_le b.length a.length && g))
      (le-leb b.low a.low h.low)
      (and_from (nat_le a.high b.high) (nat_le b.length a.length && g) (le-leb a.high b.high h.high)
      (and_from (nat_le b.length a.length) g (le-leb b.length a.length h.length)
      (agreeing W b.length b.address a.address b.zeros h.from h.upto)))

  -- a longer prefix that begins under a shorter one ends under it
  pub prefix_ends : (a b : Range W) → b.length ≤ a.length → a.address < b.address + 2 ^ (W - b.length) → a.address + 2 ^ (W - a.length) ≤ b.address + 2 ^ (W - b.length)
  prefix_ends a b le lt =
      let s = 2 ^ (W - a.length) in
      let t = 2 ^ (W - b.length) in
      let finer : W - a.length ≤ W - b.length = omega arith in
      multiples_apart s a.address (b.address + t) a.zeros
      (sum_multiple s b.address t (finer_multiple b.address (W - a.length) (W - b.length) finer b.zeros)
      (finer_power (W - a.length) (W - b.length) finer))
      lt

  pub within-holds : (a b : Range W) → Within a b → (p : Point W) → Held W a p → Held W b p
  within-holds a b w p h = record {
    low = omega (arith, w.low, h.low);
    high = omega (arith, w.high, h.high);
    from = omega (arith, w.from, h.from);
    upto = omega (arith, prefix_ends a b w.length w.upto, h.upto);
  }

  -- half of the addresses under a prefix
  abbrev half : Range W → ℕ
  half a = 2 ^ (W - a.length - 1)

  half-below : (a : Range W) → a.length < a.low → half a < 2 ^ (W - a.length)
  half-below a lt = let h : W - a.length - 1 < W - a.length = omega (arith, a.order, a.width) in pow-lt h

  -- the point in the middle of a range whose lengths are above that of its prefix
  abbrev middle : (a : Range W) → a.length < a.low → Point W
  middle a lt = record {
    address = a.address + half a;
    length = a.low;
    width = omega (arith, a.order, a.width);
    bound = omega (arith, range_end W a, half-below a lt);
    zeros = sum_multiple (2 ^ (W - a.low)) a.address (half a)
        (finer_multiple a.address (W - a.low) (W - a.length) (omega (arith, a.from)) a.zeros)
        (finer_power (W - a.low) (W - a.length - 1) (omega arith));
  }

  middle-held : (a : Range W) (lt : a.length < a.low) → range_holds W a (middle a lt) ≡ true
  middle-held a lt =
      holding W a (middle a lt)
      (record { low = le_refl a.low; high = a.order; from = omega arith; upto = omega (arith, half-below a lt) })

  -- of two ranges with the same corner the one with the longer prefix does not hold the other's middle
  not_longer : (a b : Range W) → ((p : Point W) → range_holds W a p ≡ true → range_holds W b p ≡ true) → b.low ≤ a.low → b.address ≤ a.address → a.length < b.length → ⊥
  not_longer a b all low from lt =
      let above : a.length < a.low = omega (arith, b.from) in
      let m = held W b (middle a above) (all (middle a above) (middle-held a above)) in
      let le : W - b.length ≤ W - a.length - 1 = omega arith in
      omega (arith, m.upto, pow_mono le)

  pub holds-within : (a b : Range W) → ((p : Point W) → range_holds W a p ≡ true → range_holds W b p ≡ true) → Within a b
  holds-within a b all =
      let bottom = corner W a a.low (le_refl a.low) a.order in
      let top = corner W a a.high a.order (le_refl a.high) in
      let first = held W b bottom (all bottom (corner-held W a a.low (le_refl a.low) a.order)) in
      let last = held W b top (all top (corner-held W a a.high a.order (le_refl a.high))) in
      record {
        low = first.low;
        high = last.high;
        length = ⊎_elim (λ (lt : a.length < b.length). absurd (not_longer a b all first.low first.from lt)) (λ (le : b.length ≤ a.length). le)
            (cases_lt a.length b.length);
        from = first.from;
        upto = first.upto;
      }

  pub inside-holds : (a b : Range W) → range_inside W a b ≡ true → (p : Point W) → range_holds W a p ≡ true → range_holds W b p ≡ true
  inside-holds a b h p k = holding W b p (within-holds a b (within a b h) p (held W a p k))

  pub holds-inside : (a b : Range W) → ((p : Point W) → range_holds W a p ≡ true → range_holds W b p ≡ true) → range_inside W a b ≡ true
  holds-inside a b all = from-within a b (holds-within a b all)

  pub same_points : (a b : Range W) → ((p : Point W) → range_holds W a p ≡ range_holds W b p) → a ≡ b
  same_points a b same =
      let there = holds-within a b (λ p h. sym (same p) ∙ h) in
      let back = holds-within b a (λ p h. same p ∙ h) in
      same_range a b (omega (arith, there.from, back.from)) (omega (arith, there.length, back.length))
      (omega (arith, there.low, back.low))
      (omega (arith, there.high, back.high))
