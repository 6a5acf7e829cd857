use Rattle.std.proofs.Common.{◌≡◌, ◌≤◌, [], length, take, drop}
use Rattle.filter.specs.States.{sealed_view}
use Rattle.compare.specs.Cells.{numbers}
use Rattle.compare.specs.Rows.{ranked_from}
use Rattle.compare.proofs.cells.RegionList.find_rows.Given as goal

-- the rows so far, with those of the regions that are left, are all rows
abbrev pub invariant-loop-number : goal.invariant-loop-number
invariant-loop-number g l =
    let m = g.R.Family in
    let left = sealed_view g.A.ActionKind.reject l.left in
    let right = sealed_view g.A.ActionKind.reject l.right in
    let listed = l.self.regions.now in
    let more = ranked_from m.whole m.first m.axes m.holds m.inside m.shifted g.A.ActionKind.alike listed left.clauses left.default right.clauses right.default in
    (l.ranked.count ≤ l.number)
    × (length l.ranked.rows.now ≡ length l.initial.ranked.rows.now)
    × (l.ranked.rows.ghost_name ≡ l.initial.ranked.rows.ghost_name)
    × (more (take l.ranked.count l.ranked.rows.now) (numbers l.number (drop l.number listed)) ≡ more [] (numbers 0 listed))
