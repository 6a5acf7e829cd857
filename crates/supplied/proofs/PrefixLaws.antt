-- Prefix ranges over addresses of 32 bits are a family.
use Rattle.family.specs.Families.{FamilyLaws}
use Rattle.supplied.specs.Carried.{carried_laws}
use Rattle.supplied.specs.PrefixRanges.{whole_prefix, first_of_routes, prefix_holds, prefix_inside, prefix_meet, route_shifted}
use Rattle.supplied.specs.PrefixValues.{range_values, route_values}
use Rattle.supplied.specs.RangeLaws.{range_laws}

pub prefix_laws : FamilyLaws whole_prefix first_of_routes 2 prefix_holds prefix_inside prefix_meet route_shifted
prefix_laws = carried_laws range_values route_values (range_laws 32)
