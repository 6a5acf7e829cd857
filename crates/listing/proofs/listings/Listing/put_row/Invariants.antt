use Rattle.std.proofs.Common.{◌++◌, codes}
use Rattle.std.specs.List.{flat_map}
use Rattle.buffers.specs.Outputs.{Puts}
use Rattle.listing.specs.Regions.{numbered_text}
use Rattle.listing.specs.Listings.{place_text, hole_text}
use Rattle.listing.proofs.listings.Listing.put_row.Given as goal

abbrev pub invariant-loop-hole : goal.invariant-loop-hole
invariant-loop-hole l =
    Puts l.fn.out
    (place_text l.self.left_clauses l.fn.row.left ++ codes " " ++ place_text l.self.right_clauses l.fn.row.right ++ codes " "
    ++ numbered_text l.self.regions.now l.fn.row.region ++ flat_map (λ hole. hole_text l.self.regions.now hole.now) l.yielded)
    l.out
