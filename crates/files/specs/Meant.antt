-- What comparing two files means: the listing tells exactly the routes that the filters of the two files treat unlike.
use Rattle.std.specs.Prelude.{◌≡◌, ℕ, true, ◌↔◌, List, length, Ok, Err, codes, Result}
use Rattle.family.specs.declared.clauses.Clause.{Clause}
use Rattle.supplied.specs.declared.actions.RouteAction.{RouteAction}
use Rattle.supplied.specs.declared.ranges.PrefixRange.{PrefixRange}
use Rattle.supplied.specs.declared.routes.Route.{Route}
use Rattle.supplied.specs.Actions.{same_action}
use Rattle.supplied.specs.PrefixRanges.{whole_prefix, prefix_holds, prefix_inside}
use Rattle.compare.specs.declared.reports.Declined.{Declined}
use Rattle.compare.specs.declared.rows.Row.{Row}
use Rattle.compare.specs.Answered.{Reports, HadTo}
use Rattle.compare.specs.Reported.{treated_alike}
use Rattle.listing.specs.Listings.{listing}
use Rattle.files.specs.declared.refusals.Refusal.{Refusal}
use Rattle.files.specs.declared.refusals.Refusal.TheVariants.{Left, Right, Comparison}
use Rattle.files.specs.Compared.{Filter, file_read, filter_of}

-- two filters treat every route alike
abbrev pub AllAlike : Filter → Filter → Type 0
AllAlike left right =
    (p : Route) → treated_alike prefix_holds same_action left.clauses left.default right.clauses right.default p ≡ true

-- the text lists rows that report two filters: each route treated unlike lies in one row, which names the places that decide
-- it, and no row holds another route; it says that there is no row exactly where every route is treated alike
abbrev pub ListsUnlike : Filter → Filter → List ℕ → Type 0
ListsUnlike left right text =
    (regions : List PrefixRange) × (rows : List Row) × (holes : List ℕ)
    × Reports whole_prefix 2 prefix_holds prefix_inside same_action left right regions rows holes
    × (text ≡ listing regions rows holes (length left.clauses) (length right.clauses))
    × ((text ≡ codes "rows 0\n") ↔ AllAlike left right)

-- a comparison with the numbers of places of rowlist had to be declined
abbrev pub HadToDecline : Filter → Filter → Declined → Type 0
HadToDecline left right declined =
    (regions : List PrefixRange) × HadTo whole_prefix 2 prefix_holds prefix_inside same_action left right 1024 1024 4096 declined regions

-- both files are read as filters of which something is said
abbrev pub OfFilters : List ℕ → List ℕ → (Filter → Filter → Type 0) → Type 0
OfFilters left right Says =
    (p : List (Clause PrefixRange RouteAction) × RouteAction) × (q : List (Clause PrefixRange RouteAction) × RouteAction)
    × (file_read left ≡ Ok p) × (file_read right ≡ Ok q) × Says (filter_of p) (filter_of q)

abbrev pub Meant : List ℕ → List ℕ → Result (List ℕ) Refusal → Type 0
Meant left right (Ok text) = OfFilters left right (λ p q. ListsUnlike p q text)
Meant left right (Err (Left fault)) = file_read left ≡ Err fault
Meant left right (Err (Right fault)) = (p : List (Clause PrefixRange RouteAction) × RouteAction) × (file_read left ≡ Ok p) × (file_read right ≡ Err fault)
Meant left right (Err (Comparison declined)) = OfFilters left right (λ p q. HadToDecline p q declined)
