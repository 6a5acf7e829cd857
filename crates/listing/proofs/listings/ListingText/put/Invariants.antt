use Rattle.std.proofs.Common.{◌++◌, length, take, codes, decimal}
use Rattle.std.specs.List.{flat_map}
use Rattle.buffers.specs.Outputs.{Puts}
use Rattle.listing.specs.Listings.{row_text}
use Rattle.listing.proofs.listings.ListingText.put.Given as goal

abbrev pub invariant-loop-row : goal.invariant-loop-row
invariant-loop-row l =
    Puts l.fn.out
    (codes "rows " ++ decimal (length l.self.rows.now) ++ codes "\n" ++ flat_map (row_text l.self.regions.now l.self.holes.now l.self.left_clauses l.self.right_clauses) (take l.row-index l.self.rows.now)) l.out
