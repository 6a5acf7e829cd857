use Rattle.std.proofs.Common.{◌≡◌, ◌≤◌, Some, ap, ◌∙◌, rules, arith}
use Rattle.filter.specs.States.{sealed_view}
use Rattle.compare.specs.Compared.{unless_declined, rows_in, holes_in}
use Rattle.compare.proofs.AnsweredRightly.{answered_rightly}
use Rattle.compare.proofs.ListWritten.{declined_rightly, list-is, regions_written, outcome_told}
use Rattle.compare.proofs.comparison.compare.Goals as goal

pub returns-in_err-count-clause-right : goal.returns-in_err-count-clause-right
returns-in_err-count-clause-right g c =
    let m = g.R.Family in
    let reject = g.A.ActionKind.reject in
    let few : m.axes ≤ 4 = omega (arith, c.axis_count.ensures, c.if-axis_count-gt-MOST_AXES.false) in
    declined_rightly m.laws g.A.ActionKind.alike (sealed_view reject c.args.left.now) (sealed_view reject c.args.right.now) c.args.regions.now c.args.rows.now c.args.holes.now few c.min-used.result c.min-used.ensures _ _ c.clauses.ensures c.clauses-2.ensures c.gather.new.regions
    c.gather.result (search rules) c.gather.ensures c.from_residual.result (search rules)

pub returns : goal.returns
returns g c =
    let m = g.R.Family in
    let alike = g.A.ActionKind.alike in
    let l = sealed_view g.A.ActionKind.reject c.args.left.now in
    let r = sealed_view g.A.ActionKind.reject c.args.right.now in
    let old = c.args.regions.now in
    let few : m.axes ≤ 4 = omega (arith, c.axis_count.ensures, c.if-axis_count-gt-MOST_AXES.false) in
    let some : c.gather.result ≡ Some c.in_ok-count.count = search rules in
    let list = list-is m.laws alike l r old c.args.rows.now c.args.holes.now few c.min-used.result c.min-used.ensures _ _ c.clauses.ensures c.clauses-2.ensures c.gather.new.regions c.gather.result c.in_ok-count.count some c.gather.ensures c.new.result.regions.now c.new.ensures in
    let told = c.report_on.ensures.outcome ∙ outcome_told m.laws alike l r old c.args.rows.now c.args.holes.now few c.min-used.result c.min-used.ensures _ _ c.clauses.ensures c.clauses-2.ensures c.gather.new.regions c.gather.result c.in_ok-count.count some c.gather.ensures c.new.result.regions.now c.new.ensures in
    let stands = regions_written m.laws alike l r old c.args.rows.now c.args.holes.now few c.min-used.result c.min-used.ensures _ _ c.clauses.ensures c.clauses-2.ensures c.gather.new.regions c.gather.result c.in_ok-count.count some c.gather.ensures c.new.result.regions.now c.new.ensures in
    let rows = c.report_on.ensures.rows ∙ ap (λ x. unless_declined c.report_on.result (rows_in m.whole m.first m.axes m.holds m.inside m.meet m.shifted alike l r x) c.args.rows.now) list in
    let holes = c.report_on.ensures.holes ∙ ap (λ x. unless_declined c.report_on.result (holes_in m.whole m.first m.axes m.holds m.inside m.meet m.shifted alike l r x) c.args.holes.now) list in
    record {
      outcome = told;
      regions = stands;
      rows = rows;
      holes = holes;
      right = answered_rightly m.laws alike l r old _ c.args.rows.now c.report_on.new.rows c.args.holes.now c.report_on.new.holes c.report_on.result told stands rows holes;
    }
