-- The route that an address and a length make, or why there is none.
use Rattle.std.specs.Prelude.{◌≡◌, ℕ, Some, None, Ok, Err, Option, Result, nat_le, refl}
use Rattle.std.proofs.Common.{sym, ap, ◌∙◌}
use Rattle.std.proofs.lemmas.Bool.{leb-true, le-leb}
use Rattle.supplied.specs.Carried.{Same}
use Rattle.supplied.specs.Making.{unless_fault, or_else, passed, refused, made, faultless, faulted}
use Rattle.supplied.specs.Prefixes.{is_prefix, prefix_bound, prefix_zeros, is_prefix_lem}
use Rattle.supplied.specs.PrefixValues.{route_values}
use Rattle.supplied.specs.Ranges.{Point, same_point}
use Rattle.supplied.specs.declared.errors.MakeError.{MakeError}
use Rattle.supplied.specs.declared.errors.MakeError.TheVariants.{LengthAboveWidth, AddressBitAfterLength}
use Rattle.supplied.specs.declared.routes.Route.{Route}

-- of two faults the first
abbrev pub route_fault : (W address length : ℕ) → Option MakeError
route_fault W address length =
    or_else (nat_le length W) LengthAboveWidth (or_else (is_prefix W length address) AddressBitAfterLength None)

abbrev pub point_of : (W address length : ℕ) → route_fault W address length ≡ None → Point W
point_of W address length n =
    let long = passed (nat_le length W) LengthAboveWidth (or_else (is_prefix W length address) AddressBitAfterLength None) n in
    let clear = (passed (is_prefix W length address) AddressBitAfterLength None long.1).0 in
    record {
      address = address;
      length = length;
      width = leb-true length W long.0;
      bound = prefix_bound W length address clear;
      zeros = prefix_zeros W length address clear;
    }

no_fault : (W : ℕ) (p : Point W) → route_fault W p.address p.length ≡ None
no_fault W p = rw (le-leb p.length W p.width, is_prefix_lem W p.length p.address p.bound p.zeros)

-- for any width, and any type of the code that has the points of that width
module _ {W : ℕ} {X : Type 0} (values : Same X (Point W)) where
  abbrev value_of : (address length : ℕ) → route_fault W address length ≡ None → X
  value_of address length n = values.back (point_of W address length n)

  abbrev pub made_as : (address length : ℕ) → Result X MakeError
  made_as address length = unless_fault (route_fault W address length) (value_of address length)

  made_as_lem : (x : X) (p : Point W) → values.to x ≡ p → made_as p.address p.length ≡ Ok x
  made_as_lem x p is =
      made (route_fault W p.address p.length) (value_of p.address p.length) x (no_fault W p)
      (λ n. ap values.back (same_point (point_of W p.address p.length n) p refl refl ∙ sym is) ∙ values.here x)

  numbers_as : (address length : ℕ) (x : X) → made_as address length ≡ Ok x → (n : route_fault W address length ≡ None) × (point_of W address length n ≡ values.to x)
  numbers_as address length x h =
      let (n, e) = faultless (route_fault W address length) (value_of address length) x h in
      (n, sym (values.there (point_of W address length n)) ∙ ap values.to e)

unfoldable pub made_route : (address length : ℕ) → Result Route MakeError
made_route = made_as route_values

pub route_refused : (address length : ℕ) (e : MakeError) → route_fault 32 address length ≡ Some e → made_route address length ≡ Err e
unfolding made_route
route_refused address length e h = refused (route_fault 32 address length) (value_of route_values address length) e h

pub route_made : (p : Route) → made_route p.address p.length ≡ Ok p
unfolding made_route
route_made p = made_as_lem route_values p (route_values.to p) refl

-- a route that is made has the numbers that it is made of
pub route_numbers : (address length : ℕ) (p : Route) → made_route address length ≡ Ok p → (p.address ≡ address) × (p.length ≡ length)
unfolding made_route
route_numbers address length p h =
    let e = sym (numbers_as route_values address length p h).1 in
    (ap (λ (q : Point 32). q.address) e, ap (λ (q : Point 32). q.length) e)

pub route_faultless : (address length : ℕ) (p : Route) → made_route address length ≡ Ok p → route_fault 32 address length ≡ None
unfolding made_route
route_faultless address length p h = (numbers_as route_values address length p h).0

pub route_faulted : (address length : ℕ) (e : MakeError) → made_route address length ≡ Err e → route_fault 32 address length ≡ Some e
unfolding made_route
route_faulted address length e h = faulted (route_fault 32 address length) (value_of route_values address length) e h
