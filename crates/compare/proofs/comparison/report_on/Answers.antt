use Rattle.std.proofs.Common.{◌≡◌, length, take, Ok, sum_by, sym, ap, ◌∙◌, arith, length-take}
use Rattle.filter.specs.States.{sealed_view}
use Rattle.compare.specs.Rows.{holes_of_rows}
use Rattle.compare.proofs.LaidOut.{hole_count}
use Rattle.compare.proofs.ReportMade.{rows-laid, hole_count_lem, no_row_place, no_hole_place, all_placed}
use Rattle.compare.proofs.comparison.report_on.Given as given
use Rattle.compare.proofs.comparison.report_on.Goals as goal
use Rattle.compare.proofs.comparison.report_on.Goals.{After-find_rows-count}

counted : (g : given.Over) (c : After-find_rows-count g) → length (take c.find_rows-count.result c.find_rows-count.new.found) ≡ c.find_rows-count.result
counted g c = let n = c.find_rows-count.result in let all = c.find_rows-count.new.found in omega (arith, length-take n all, c.find_rows-count.ensures.within, c.args.listed.now.few, c.find_rows-count.auto.found)

pub returns-then-found-rows-clause-outcome : goal.returns-then-found-rows-clause-outcome
returns-then-found-rows-clause-outcome g c =
    let m = g.R.Family in
    let reject = g.A.ActionKind.reject in
    let found = c.find_rows-count in
    no_row_place m.whole m.first m.axes m.holds m.inside m.meet m.shifted g.A.ActionKind.alike (sealed_view reject c.args.left.now) (sealed_view reject c.args.right.now) c.args.listed.now.regions.now (take found.result found.new.found) found.ensures.rows
    (length c.args.rows.now) (length c.args.holes.now) (omega (arith, c.if-found-rows.true))

pub returns-then-total-holes-clause-outcome : goal.returns-then-total-holes-clause-outcome
returns-then-total-holes-clause-outcome g c =
    let m = g.R.Family in
    let reject = g.A.ActionKind.reject in
    let found = c.find_rows-count in
    no_hole_place m.whole m.first m.axes m.holds m.inside m.meet m.shifted g.A.ActionKind.alike (sealed_view reject c.args.left.now) (sealed_view reject c.args.right.now) c.args.listed.now.regions.now (take found.result found.new.found) found.ensures.rows
    (length c.args.rows.now) (length c.args.holes.now) (omega (arith, c.if-found-rows.false)) (omega (arith, c.count_holes-total.ensures, c.if-total-holes.true))

pub write_holes-requires : goal.write_holes-requires
write_holes-requires g c =
    let m = g.R.Family in
    let reject = g.A.ActionKind.reject in
    let found = c.find_rows-count in
    let xs = c.args.listed.now.regions.now in
    let l = sealed_view reject c.args.left.now in
    let r = sealed_view reject c.args.right.now in
    let size = hole_count_lem m.whole m.first m.axes m.holds m.inside m.meet m.shifted g.A.ActionKind.alike l r xs (take found.result found.new.found) found.ensures.rows in
    let same = ap (λ rows. length (holes_of_rows m.inside m.whole xs rows)) (c.lay_rows.ensures ∙ sym (rows-laid m.whole m.first m.axes m.holds m.inside m.meet m.shifted g.A.ActionKind.alike l r xs (take found.result found.new.found) found.ensures.rows)) in
    omega (arith, c.count_holes-total.ensures, size, same, c.if-total-holes.false, c.well_formed)

pub returns-clause-outcome : goal.returns-clause-outcome
returns-clause-outcome g c =
    let m = g.R.Family in
    let reject = g.A.ActionKind.reject in
    let found = c.find_rows-count in
    let xs = c.args.listed.now.regions.now in
    let rows = take found.result found.new.found in
    let count : found.result ≡ length rows = sym (counted g (goal.at.returns-clause-outcome g c).After-find_rows-count) in
    let total : c.count_holes-total.result ≡ sum_by hole_count rows = omega (arith, c.count_holes-total.ensures, c.if-total-holes.false, c.well_formed) in
    ap (λ n. Ok (record { regions = n; rows = found.result; holes = c.count_holes-total.result })) c.len.ensures
    ∙ ap (λ n. Ok (record { regions = length xs; rows = n; holes = c.count_holes-total.result })) count
    ∙ ap (λ n. Ok (record { regions = length xs; rows = length rows; holes = n })) total
    ∙ all_placed m.whole m.first m.axes m.holds m.inside m.meet m.shifted g.A.ActionKind.alike (sealed_view reject c.args.left.now) (sealed_view reject c.args.right.now) xs rows found.ensures.rows
    (length c.args.rows.now) (length c.args.holes.now) (omega (arith, c.if-found-rows.false)) (omega (arith, total, c.if-total-holes.false))
