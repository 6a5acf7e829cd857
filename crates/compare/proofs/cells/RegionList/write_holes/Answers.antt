use Rattle.std.proofs.Common.{◌+◌, [], ◌++◌, length, get_or, take, Some, fold, ap, subst, arith, length-append}
use Rattle.std.proofs.lemmas.List.{get_or_default}
use Rattle.std.proofs.lemmas.List.Sums.{fold_more}
use Rattle.compare.specs.Cells.{holes_of, region_at}
use Rattle.compare.specs.Rows.{add_holes}
use Rattle.compare.specs.Written.{Written}
use Rattle.compare.proofs.Extended.{extends_length, folded_front, add_holes_extends}
use Rattle.compare.proofs.Fronts.{written_step}
use Rattle.compare.proofs.LaidOut.{no_row}
use Rattle.compare.proofs.cells.RegionList.write_holes.Goals as goal

pub copy_holes-at-requires : goal.copy_holes-at-requires
copy_holes-at-requires g c =
    let m = g.R.Family in
    let add = add_holes m.inside m.whole c.args.self.now.regions.now in
    let rows = c.args.rows.now in
    let next = fold_more add [] rows c.loop-row.row-index no_row c.loop-row-test.true in
    let within = extends_length _ _ (folded_front add (add_holes_extends m.inside m.whole c.args.self.now.regions.now) [] (c.loop-row.row-index + 1) rows) in
    let held = ap (λ r. length (holes_of m.inside m.whole c.args.self.now.regions.now r)) c.region.ensures in
    omega (arith, ap length next, within, held, length-append (fold add [] (take c.loop-row.row-index rows)) (holes_of m.inside m.whole c.args.self.now.regions.now (region_at m.whole c.args.self.now.regions.now (get_or rows c.loop-row.row-index no_row).region)), c.loop-row.invariant.0, c.requires, c.loop-row.auto.holes)

pub loop-row-preserved : goal.loop-row-preserved
loop-row-preserved g c =
    let m = g.R.Family in
    let xs = c.args.self.now.regions.now in
    let add = add_holes m.inside m.whole xs in
    let put = subst (λ r. Written c.loop-row.holes (take c.loop-row.at c.loop-row.holes ++ holes_of m.inside m.whole xs r) (Some c.copy_holes-at.result) c.copy_holes-at.new.holes) c.region.ensures c.copy_holes-at.ensures in
    written_step add (add_holes_extends m.inside m.whole xs) c.args.holes.now [] c.args.rows.now c.loop-row.row-index _ c.loop-row.at c.loop-row.holes (Some c.copy_holes-at.result) c.copy_holes-at.new.holes c.loop-row.invariant c.loop-row-test.true (get_or_default c.args.rows.now c.loop-row.row-index no_row _ c.loop-row-test.true) put
