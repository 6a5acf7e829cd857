-- Prefix ranges over addresses of W bits: which points they hold, when one is inside another, their meet and shifts.
use Rattle.std.specs.Prelude.{◌≡◌, ℕ, ◌+◌, ◌-◌, ◌%◌, ◌^◌, ◌<◌, ◌≤◌, min, max, Bool, true, cond, ◌&&◌, Option, ◌==◌, nat_le}
use mathlib.Core.HLevel.{is_prop→PathP}
use Rattle.std.proofs.Math.Bridge.{le_prop}
use Rattle.std.proofs.Math.Nat.{zero-mod, ℕ_set}
use Rattle.std.proofs.Common.{arith, pow_pos}
use Rattle.std.proofs.lemmas.Bool.{leb-true, and_parts}
use Rattle.family.specs.declared.edges.Edge.{Edge}
use Rattle.supplied.specs.Making.{if_true}
use Rattle.supplied.specs.Edges.{to_edge, edge_below}
use Rattle.supplied.specs.Multiples.{cut_down, cut_multiple, cut_below}
use Rattle.supplied.specs.Prefixes.{agree}

pub record Range (W : ℕ) : Type 0 where
  pub address : ℕ
  pub length : ℕ
  pub low : ℕ
  pub high : ℕ
  pub from : length ≤ low
  pub order : low ≤ high
  pub width : high ≤ W
  pub bound : address < 2 ^ W
  pub zeros : address % 2 ^ (W - length) ≡ 0

pub record Point (W : ℕ) : Type 0 where
  pub address : ℕ
  pub length : ℕ
  pub width : length ≤ W
  pub bound : address < 2 ^ W
  pub zeros : address % 2 ^ (W - length) ≡ 0

-- ranges with the same numbers are the same, and so are points
pub same_range : {W : ℕ} (a b : Range W) → a.address ≡ b.address → a.length ≡ b.length → a.low ≡ b.low → a.high ≡ b.high → a ≡ b
same_range {W} p q a l lo hi =
    λ i. record {
      address = a i;
      length = l i;
      low = lo i;
      high = hi i;
      from = is_prop→PathP (λ j. l j ≤ lo j) (λ j. le_prop) p.from q.from i;
      order = is_prop→PathP (λ j. lo j ≤ hi j) (λ j. le_prop) p.order q.order i;
      width = is_prop→PathP (λ j. hi j ≤ W) (λ j. le_prop) p.width q.width i;
      bound = is_prop→PathP (λ j. a j < 2 ^ W) (λ j. le_prop) p.bound q.bound i;
      zeros = is_prop→PathP (λ j. a j % 2 ^ (W - l j) ≡ 0) (λ j. ℕ_set (a j % 2 ^ (W - l j)) 0) p.zeros q.zeros i;
    }

pub same_point : {W : ℕ} (p q : Point W) → p.address ≡ q.address → p.length ≡ q.length → p ≡ q
same_point {W} p q a l =
    λ i. record {
      address = a i;
      length = l i;
      width = is_prop→PathP (λ j. l j ≤ W) (λ j. le_prop) p.width q.width i;
      bound = is_prop→PathP (λ j. a j < 2 ^ W) (λ j. le_prop) p.bound q.bound i;
      zeros = is_prop→PathP (λ j. a j % 2 ^ (W - l j) ≡ 0) (λ j. ℕ_set (a j % 2 ^ (W - l j)) 0) p.zeros q.zeros i;
    }

module _ (W : ℕ) where
  abbrev pub whole_range : Range W
  whole_range = record {
    address = 0;
    length = 0;
    low = 0;
    high = W;
    from = omega arith;
    order = omega arith;
    width = omega arith;
    bound = pow_pos W;
    zeros = zero-mod (2 ^ (W - 0));
  }

  abbrev pub first_route : Point W
  first_route = record {
    address = 0;
    length = 0;
    width = omega arith;
    bound = pow_pos W;
    zeros = zero-mod (2 ^ (W - 0));
  }

  abbrev pub range_holds : Range W → Point W → Bool
  range_holds r p =
      nat_le r.low p.length && (nat_le p.length r.high && agree W r.length p.address r.address)

  abbrev pub range_inside : Range W → Range W → Bool
  range_inside a b =
      nat_le b.low a.low
      && (nat_le a.high b.high && (nat_le b.length a.length && agree W b.length a.address b.address))

  -- a's prefix lies under b's, and there is a length that both allow
  abbrev pub overlaps : Range W → Range W → Bool
  overlaps a b =
      agree W b.length a.address b.address && nat_le (max a.low b.low) (min a.high b.high)

  -- a range with no other lengths than another allows
  abbrev pub narrow_to : (a b : Range W) → overlaps a b ≡ true → Range W
  narrow_to a b t = record {
    address = a.address;
    length = a.length;
    low = max a.low b.low;
    high = min a.high b.high;
    from = omega (arith, a.from);
    order = leb-true (max a.low b.low) (min a.high b.high)
        (and_parts (agree W b.length a.address b.address) (nat_le (max a.low b.low) (min a.high b.high)) t).1;
    width = omega (arith, a.width);
    bound = a.bound;
    zeros = a.zeros;
  }

  -- the meet with a range whose prefix is not longer
  abbrev pub narrowed : Range W → Range W → Option (Range W)
  narrowed a b = if_true (overlaps a b) (narrow_to a b)

  abbrev pub range_meet : Range W → Range W → Option (Range W)
  range_meet a b = cond (nat_le b.length a.length) (narrowed a b) (narrowed b a)

  -- an address with every bit after its length made zero
  abbrev pub cut_to : (address length : ℕ) → address < 2 ^ W → length ≤ W → Point W
  cut_to address length bound width = record {
    address = cut_down (2 ^ (W - length)) address;
    length = length;
    width = width;
    bound = omega (arith, cut_below (2 ^ (W - length)) address, bound);
    zeros = cut_multiple (2 ^ (W - length)) address;
  }

  abbrev pub shifted_length : Range W → Edge → ℕ → ℕ
  shifted_length r e n = to_edge (W + 1) r.low (r.high + 1) e n

  abbrev pub shifted_address : Range W → Edge → ℕ → ℕ
  shifted_address r e x = to_edge (2 ^ W) r.address (r.address + 2 ^ (W - r.length)) e x

  pub length-below : (r : Range W) (e : Edge) (p : Point W) → shifted_length r e p.length ≤ W
  length-below r e p = let h = edge_below (W + 1) r.low (r.high + 1) e p.length (omega (arith, r.order, r.width)) (omega (arith, p.width)) in omega arith

  abbrev pub along_length : Point W → Edge → Range W → Point W
  along_length p e r = cut_to p.address (shifted_length r e p.length) p.bound (length-below r e p)

  abbrev pub along_address : Point W → Edge → Range W → Point W
  along_address p e r =
      let far = r.address + 2 ^ (W - r.length) in
      cut_to (shifted_address r e p.address) p.length
      (edge_below (2 ^ W) r.address far e p.address r.bound p.bound) p.width

  -- axis 1 is the length, axis 2 the address
  abbrev pub range_shifted : Point W → ℕ → Edge → Range W → Point W
  range_shifted p axis e r = cond (axis == 1) (along_length p e r) (cond (axis == 2) (along_address p e r) p)
