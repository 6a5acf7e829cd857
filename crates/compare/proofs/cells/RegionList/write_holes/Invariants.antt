use Rattle.std.proofs.Common.{take, Some}
use Rattle.compare.specs.Rows.{holes_of_rows}
use Rattle.compare.specs.Written.{Written}
use Rattle.compare.proofs.cells.RegionList.write_holes.Given as goal

abbrev pub invariant-loop-row : goal.invariant-loop-row
invariant-loop-row g l =
    Written l.initial.holes (holes_of_rows g.R.Family.inside g.R.Family.whole l.self.regions.now (take l.row-index l.rows)) (Some l.at) l.holes
