use Rattle.std.proofs.Common.{◌+◌, ◌-◌}
use Rattle.compare.proofs.cells.+RegionList-is_reached+fn-RegionList-is_reached-any.Given as goal

abbrev pub decreases-RegionList::is_reached : goal.decreases-RegionList::is_reached
decreases-RegionList::is_reached g l = l.left + l.left

abbrev pub decreases-any : goal.decreases-any
decreases-any g l = l.left + l.left - 1
