use Rattle.std.proofs.Common.{◌≡◌, ◌-◌, ◌∙◌, sym, rules, tests, arith}
use Rattle.std.proofs.lemmas.Iterator.{YieldsList-from_slice}
use Rattle.std.proofs.lemmas.Iterator.Search.{any_from_yields_List}
use Rattle.std.specs.List.{list_any}
use Rattle.compare.specs.Cells.{region_at, in_cell, reaches_by}
use Rattle.compare.proofs.Reached.{reaches_first}
use Rattle.compare.proofs.cells.+RegionList-is_reached+fn-RegionList-is_reached-any.Goals as goal

pub returns-else-is_reached : goal.returns-else-is_reached
returns-else-is_reached g t c =
    let m = g.R.Family in
    let at = region_at m.whole c.args.self.now.regions.now in
    let cell = c.args.cell.now in
    let by = reaches_by m.shifted at (in_cell m.holds at cell) cell (c.args.left - 1) c.args.axis c.args.point in
    let any : c.any.result ≡ list_any by cell = any_from_yields_List by _ _ c.any.result c.any.ensures.ran (YieldsList-from_slice _ c.iter.ensures.rest) (λ x b q k. search (rules, tests)) in
    any ∙ reaches_first m.shifted at (in_cell m.holds at cell) cell c.args.left c.args.axis c.args.point (omega (arith, c.if-left-eq0.false)) (sym c.is_reached.ensures ∙ c.if-is_reached.false)
