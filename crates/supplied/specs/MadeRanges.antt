-- The prefix range that four numbers make, or why there is none.
use Rattle.std.specs.Prelude.{◌≡◌, ℕ, ◌≤◌, Bool, true, false, ◌&&◌, Some, None, Ok, Err, Option, Result, nat_le, refl}
use Rattle.std.proofs.Common.{sym, ap, ap₂, ◌∙◌, arith}
use Rattle.std.proofs.lemmas.Bool.{leb-true, le-leb, and_parts}
use Rattle.supplied.specs.Carried.{Same}
use Rattle.supplied.specs.Making.{unless_fault, or_else, passed, refused, made, faultless}
use Rattle.supplied.specs.MadeRoutes.{made_route, route_faultless, route_faulted}
use Rattle.supplied.specs.Prefixes.{is_prefix, prefix_bound, prefix_zeros, is_prefix_lem}
use Rattle.supplied.specs.PrefixValues.{range_values}
use Rattle.supplied.specs.Ranges.{Range, same_range}
use Rattle.supplied.specs.declared.errors.MakeError.{MakeError}
use Rattle.supplied.specs.declared.errors.MakeError.TheVariants.{LengthAboveWidth, AddressBitAfterLength, LengthsOutOfOrder}
use Rattle.supplied.specs.declared.ranges.PrefixRange.{PrefixRange}
use Rattle.supplied.specs.declared.routes.Route.{Route}

-- the three lengths of a range stand in order
abbrev pub in_order : (W length low high : ℕ) → Bool
in_order W length low high = nat_le length low && (nat_le low high && nat_le high W)

-- of several faults the first
abbrev pub range_fault : (W address length low high : ℕ) → Option MakeError
range_fault W address length low high =
    or_else (nat_le length W) LengthAboveWidth
    (or_else (is_prefix W length address) AddressBitAfterLength (or_else (in_order W length low high) LengthsOutOfOrder None))

abbrev pub range_of : (W address length low high : ℕ) → range_fault W address length low high ≡ None → Range W
range_of W address length low high n =
    let later = or_else (in_order W length low high) LengthsOutOfOrder None in
    let long = passed (nat_le length W) LengthAboveWidth (or_else (is_prefix W length address) AddressBitAfterLength later) n in
    let clear = passed (is_prefix W length address) AddressBitAfterLength later long.1 in
    let order = (passed (in_order W length low high) LengthsOutOfOrder None clear.1).0 in
    let first = and_parts (nat_le length low) (nat_le low high && nat_le high W) order in
    let rest = and_parts (nat_le low high) (nat_le high W) first.1 in
    record {
      address = address;
      length = length;
      low = low;
      high = high;
      from = leb-true length low first.0;
      order = leb-true low high rest.0;
      width = leb-true high W rest.1;
      bound = prefix_bound W length address clear.0;
      zeros = prefix_zeros W length address clear.0;
    }

-- a range has no fault, and its numbers make it again
no_fault : (W : ℕ) (r : Range W) → range_fault W r.address r.length r.low r.high ≡ None
no_fault W r =
    let long : r.length ≤ W = omega (arith, r.from, r.order, r.width) in
    rw
    (le-leb r.length W long, is_prefix_lem W r.length r.address r.bound r.zeros, le-leb r.length r.low r.from, le-leb r.low r.high r.order, le-leb r.high W r.width)

-- for any width, and any type of the code that has the ranges of that width
module _ {W : ℕ} {X : Type 0} (values : Same X (Range W)) where
  abbrev value_of : (address length low high : ℕ) → range_fault W address length low high ≡ None → X
  value_of address length low high n = values.back (range_of W address length low high n)

  abbrev pub made_as : (address length low high : ℕ) → Result X MakeError
  made_as address length low high = unless_fault (range_fault W address length low high) (value_of address length low high)

  made_as_lem : (x : X) (r : Range W) → values.to x ≡ r → made_as r.address r.length r.low r.high ≡ Ok x
  made_as_lem x r is =
      made (range_fault W r.address r.length r.low r.high) (value_of r.address r.length r.low r.high) x
      (no_fault W r)
      (λ n. ap values.back (same_range (range_of W r.address r.length r.low r.high n) r refl refl refl refl ∙ sym is)
      ∙ values.here x)

  numbers_as : (address length low high : ℕ) (x : X) → made_as address length low high ≡ Ok x → (n : range_fault W address length low high ≡ None) × (range_of W address length low high n ≡ values.to x)
  numbers_as address length low high x h =
      let (n, e) = faultless (range_fault W address length low high) (value_of address length low high) x h in
      (n, sym (values.there (range_of W address length low high n)) ∙ ap values.to e)

unfoldable pub made_range : (address length low high : ℕ) → Result PrefixRange MakeError
made_range = made_as range_values

pub range_refused : (address length low high : ℕ) (e : MakeError) → range_fault 32 address length low high ≡ Some e → made_range address length low high ≡ Err e
unfolding made_range
range_refused address length low high e h =
    refused (range_fault 32 address length low high) (value_of range_values address length low high) e h

pub range_made : (p : PrefixRange) → made_range p.address p.length p.low p.high ≡ Ok p
unfolding made_range
range_made p = made_as_lem range_values p (range_values.to p) refl

pub range_made_of : (address length : ℕ) (p : PrefixRange) → p.address ≡ address → p.length ≡ length → made_range address length p.low p.high ≡ Ok p
range_made_of address length p a l =
    sym (ap₂ (λ (x n : ℕ). made_range x n p.low p.high) a l) ∙ range_made p

-- a range that is made has the numbers that it is made of
pub range_numbers_lem : (address length low high : ℕ) (p : PrefixRange) → made_range address length low high ≡ Ok p → (p.address ≡ address) × (p.length ≡ length) × (p.low ≡ low) × (p.high ≡ high)
unfolding made_range
range_numbers_lem address length low high p h =
    let e = sym (numbers_as range_values address length low high p h).1 in
    (ap (λ (r : Range 32). r.address) e, ap (λ (r : Range 32). r.length) e, ap (λ (r : Range 32). r.low) e, ap (λ (r : Range 32). r.high) e)

-- The faults of a range are those of its prefix as a route, and then those of its lengths.
fault_of_prefix : (a b : Bool) (later : Option MakeError) (e : MakeError) → or_else a LengthAboveWidth (or_else b AddressBitAfterLength None) ≡ Some e → or_else a LengthAboveWidth (or_else b AddressBitAfterLength later) ≡ Some e
fault_of_prefix true true later e h = cc
fault_of_prefix true false later e h = h
fault_of_prefix false b later e h = h

fault_of_lengths : (a b : Bool) (later : Option MakeError) → or_else a LengthAboveWidth (or_else b AddressBitAfterLength None) ≡ None → or_else a LengthAboveWidth (or_else b AddressBitAfterLength later) ≡ later
fault_of_lengths true true later h = refl
fault_of_lengths true false later h = cc
fault_of_lengths false b later h = cc

module _ (address length low high : ℕ) where
  abbrev lengths_fault : Option MakeError
  lengths_fault = or_else (in_order 32 length low high) LengthsOutOfOrder None

  pub prefix_refused : (e : MakeError) → made_route address length ≡ Err e → made_range address length low high ≡ Err e
  prefix_refused e h =
      range_refused address length low high e
      (fault_of_prefix (nat_le length 32) (is_prefix 32 length address) lengths_fault e (route_faulted address length e h))

  pub lengths_refused : (p : Route) → made_route address length ≡ Ok p → in_order 32 length low high ≡ false → made_range address length low high ≡ Err LengthsOutOfOrder
  lengths_refused p h f =
      range_refused address length low high LengthsOutOfOrder
      (fault_of_lengths (nat_le length 32) (is_prefix 32 length address) lengths_fault (route_faultless address length p h) ∙ ap (λ (b : Bool). or_else b LengthsOutOfOrder None) f)
