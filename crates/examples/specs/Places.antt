-- Two files compared over other numbers of places than the program has.
use Rattle.std.specs.Prelude.{ℕ, List, Some, None, Ok, Err, Option, Result}
use Rattle.family.specs.declared.clauses.Clause.{Clause}
use Rattle.supplied.specs.declared.actions.RouteAction.{RouteAction}
use Rattle.supplied.specs.declared.ranges.PrefixRange.{PrefixRange}
use Rattle.supplied.specs.Actions.{same_action}
use Rattle.supplied.specs.PrefixRanges.{whole_prefix, first_of_routes, prefix_holds, prefix_inside, prefix_meet, route_shifted}
use Rattle.fields.specs.declared.faults.Fault.{Fault}
use Rattle.compare.specs.declared.reports.Declined.{Declined}
use Rattle.compare.specs.declared.reports.Report.{Report}
use Rattle.compare.specs.Compared.{outcome}
use Rattle.files.specs.Compared.{file_read, filter_of}

abbrev pub both_over : Result (List (Clause PrefixRange RouteAction) × RouteAction) Fault → Result (List (Clause PrefixRange RouteAction) × RouteAction) Fault → ℕ → ℕ → ℕ → Option (Result Report Declined)
both_over (Ok p) (Ok q) regions rows holes = Some (outcome whole_prefix first_of_routes 2 prefix_holds prefix_inside prefix_meet route_shifted same_action (filter_of p) (filter_of q) regions rows holes)
both_over (Ok p) (Err fault) regions rows holes = None
both_over (Err fault) q regions rows holes = None

-- what comparing two files answers, where both are read
abbrev pub compared_over : List ℕ → List ℕ → ℕ → ℕ → ℕ → Option (Result Report Declined)
compared_over left right regions rows holes = both_over (file_read left) (file_read right) regions rows holes
