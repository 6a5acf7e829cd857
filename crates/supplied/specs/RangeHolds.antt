-- What a prefix range holds, as two intervals: of lengths and of addresses.
use Rattle.std.specs.Prelude.{◌≡◌, ℕ, ◌+◌, ◌-◌, ◌^◌, ◌<◌, ◌≤◌, true, ◌&&◌, Decides, nat_le}
use Rattle.std.proofs.Common.{ap, arith, pow_pos}
use Rattle.std.proofs.lemmas.Bool.{leb-true, le-leb, and_parts, and_from}
use Rattle.supplied.specs.Multiples.{multiples_apart, finer_multiple, finer_power}
use Rattle.supplied.specs.Prefixes.{agree, agree-from, agree-upto, agreeing}
use Rattle.supplied.specs.Ranges.{Range, Point, range_holds, whole_range}

module _ (W : ℕ) where
  pub record Held (r : Range W) (p : Point W) : Type 0 where
    pub low : r.low ≤ p.length
    pub high : p.length ≤ r.high
    pub from : r.address ≤ p.address
    pub upto : p.address < r.address + 2 ^ (W - r.length)

  pub held : (r : Range W) (p : Point W) → range_holds W r p ≡ true → Held r p
  held r p h =
      let a = agree W r.length p.address r.address in
      let first = and_parts (nat_le r.low p.length) (nat_le p.length r.high && a) h in
      let second = and_parts (nat_le p.length r.high) a first.1 in
      record {
        low = leb-true r.low p.length first.0;
        high = leb-true p.length r.high second.0;
        from = agree-from W r.length r.address p.address r.zeros second.1;
        upto = agree-upto W r.length r.address p.address r.zeros second.1;
      }

  pub holding : (r : Range W) (p : Point W) → Held r p → range_holds W r p ≡ true
  holding r p h =
      let a = agree W r.length p.address r.address in
      and_from (nat_le r.low p.length) (nat_le p.length r.high && a) (le-leb r.low p.length h.low)
      (and_from (nat_le p.length r.high) a (le-leb p.length r.high h.high)
      (agreeing W r.length r.address p.address r.zeros h.from h.upto))

  pub decides_held : (r : Range W) (p : Point W) → Decides (range_holds W r p) (Held r p)
  decides_held r p = (held r p, holding r p)

  -- the range ends with the addresses
  pub range_end : (r : Range W) → r.address + 2 ^ (W - r.length) ≤ 2 ^ W
  range_end r =
      multiples_apart (2 ^ (W - r.length)) r.address (2 ^ W) r.zeros (finer_power (W - r.length) W (omega arith))
      r.bound

  -- the range's own address, at each length that it allows
  abbrev pub corner : (r : Range W) (n : ℕ) → r.low ≤ n → n ≤ r.high → Point W
  corner r n lo hi = record {
    address = r.address;
    length = n;
    width = omega (arith, r.width);
    bound = r.bound;
    zeros = finer_multiple r.address (W - n) (W - r.length) (omega (arith, r.from)) r.zeros;
  }

  pub corner-held : (r : Range W) (n : ℕ) (lo : r.low ≤ n) (hi : n ≤ r.high) → range_holds W r (corner r n lo hi) ≡ true
  corner-held r n lo hi =
      holding r (corner r n lo hi)
      (record { low = lo; high = hi; from = omega arith; upto = omega (arith, pow_pos (W - r.length)) })

  pub whole_holds : (p : Point W) → range_holds W (whole_range W) p ≡ true
  whole_holds p =
      let e : W - 0 ≡ W = omega arith in
      holding (whole_range W) p
      (record {
        low = omega arith;
        high = p.width;
        from = omega arith;
        upto = omega (arith, p.bound, ap (λ (k : ℕ). 2 ^ k) e);
      })
