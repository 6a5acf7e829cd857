use Rattle.std.proofs.Common.{◌≡◌, ◌<◌, length, sym, ap, ◌∙◌, rules}
use Rattle.compare.specs.Cells.{region_at, in_cell, cornered}
use Rattle.compare.proofs.Reached.{occupied_at_corner, occupied_nowhere}
use Rattle.compare.proofs.cells.RegionList.is_occupied.Goals as goal

pub returns-in_default : goal.returns-in_default
returns-in_default g c =
    let m = g.R.Family in
    let none : length c.args.cell.now ≡ 0 = search rules in
    sym (occupied_nowhere m.first m.axes m.holds m.shifted (region_at m.whole c.args.self.now.regions.now) c.args.cell.now none)

pub returns-then-is_in_cell : goal.returns-then-is_in_cell
returns-then-is_in_cell g c =
    let m = g.R.Family in
    let at = region_at m.whole c.args.self.now.regions.now in
    let cell = c.args.cell.now in
    let some : 0 < length cell = search rules in
    let corner = c.near_corner.ensures ∙ ap (λ r. cornered m.shifted r m.axes 1 m.first) c.region.ensures in
    let held = sym (ap (in_cell m.holds at cell) corner) ∙ sym c.is_in_cell.ensures ∙ c.if-is_in_cell.true in
    c.if-is_in_cell.true ∙ sym (occupied_at_corner m.first m.axes m.holds m.shifted at cell some held)
