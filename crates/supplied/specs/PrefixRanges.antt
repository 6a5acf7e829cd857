-- Prefix ranges over addresses of 32 bits as a family.
use Rattle.std.specs.Prelude.{ℕ, Bool, Option}
use Rattle.family.specs.declared.edges.Edge.{Edge}
use Rattle.supplied.specs.Carried.{carried_holds, carried_inside, carried_meet, carried_shifted}
use Rattle.supplied.specs.PrefixValues.{range_values, route_values}
use Rattle.supplied.specs.Ranges.{whole_range, first_route, range_holds, range_inside, range_meet, narrowed, range_shifted}
use Rattle.supplied.specs.declared.ranges.PrefixRange.{PrefixRange}
use Rattle.supplied.specs.declared.routes.Route.{Route}

abbrev pub whole_prefix : PrefixRange
whole_prefix = range_values.back (whole_range 32)

abbrev pub first_of_routes : Route
first_of_routes = route_values.back (first_route 32)

abbrev pub prefix_holds : PrefixRange → Route → Bool
prefix_holds = carried_holds range_values route_values (range_holds 32)

abbrev pub prefix_inside : PrefixRange → PrefixRange → Bool
prefix_inside = carried_inside range_values (range_inside 32)

abbrev pub prefix_meet : PrefixRange → PrefixRange → Option PrefixRange
prefix_meet = carried_meet range_values (range_meet 32)

-- the meet with a range whose prefix is not longer
abbrev pub prefix_narrowed : PrefixRange → PrefixRange → Option PrefixRange
prefix_narrowed = carried_meet range_values (narrowed 32)

abbrev pub route_shifted : Route → ℕ → Edge → PrefixRange → Route
route_shifted = carried_shifted range_values route_values (range_shifted 32)
