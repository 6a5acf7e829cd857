-- The prefix ranges and routes of the code are those over addresses of 32 bits.
use Rattle.std.specs.Prelude.{◌≡◌, refl}
use Rattle.std.proofs.Common.{ap}
use Rattle.supplied.specs.Carried.{Same}
use Rattle.supplied.specs.Ranges as ranges
use Rattle.supplied.specs.Ranges.{Range, Point}
use Rattle.supplied.specs.declared.ranges.PrefixRange.{PrefixRange}
use Rattle.supplied.specs.declared.routes.Route.{Route}

abbrev pub range_values : Same PrefixRange (Range 32)
range_values = record {
  to = λ p. record {
    address = p.address;
    length = p.length;
    low = p.low;
    high = p.high;
    from = p.from;
    order = p.order;
    width = p.width;
    bound = p.bound;
    zeros = p.zeros;
  };
  back = λ r. record {
    address = r.address;
    length = r.length;
    low = r.low;
    high = r.high;
    from = r.from;
    order = r.order;
    width = r.width;
    bound = r.bound;
    zeros = r.zeros;
  };
  there = λ r. refl;
  here = λ p. refl;
}

abbrev pub route_values : Same Route (Point 32)
route_values = record {
  to = λ p. record {
    address = p.address;
    length = p.length;
    width = p.width;
    bound = p.bound;
    zeros = p.zeros;
  };
  back = λ q. record {
    address = q.address;
    length = q.length;
    width = q.width;
    bound = q.bound;
    zeros = q.zeros;
  };
  there = λ q. refl;
  here = λ p. refl;
}

-- values with the same numbers are the same
pub same_range : (p q : PrefixRange) → p.address ≡ q.address → p.length ≡ q.length → p.low ≡ q.low → p.high ≡ q.high → p ≡ q
same_range p q a l lo hi =
    ap range_values.back (ranges.same_range (range_values.to p) (range_values.to q) a l lo hi)

pub same_route : (p q : Route) → p.address ≡ q.address → p.length ≡ q.length → p ≡ q
same_route p q a l = ap route_values.back (ranges.same_point (route_values.to p) (route_values.to q) a l)
