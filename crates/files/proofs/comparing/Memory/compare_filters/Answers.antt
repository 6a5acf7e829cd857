use Rattle.std.proofs.Common.{ℕ, length, refl, ap, rules}
use Rattle.supplied.specs.Actions.{rejected}
use Rattle.filter.specs.States.{sealed_view}
use Rattle.files.proofs.Shown.{shown_after, told_report, told_declined}
use Rattle.files.proofs.comparing.Memory.compare_filters.Goals as goal

pub returns-in_err-report : goal.returns-in_err-report
returns-in_err-report c =
    let l = sealed_view rejected c.args.left.now in
    let r = sealed_view rejected c.args.right.now in
    let old = c.args.self.now in
    let new = c.compare.new in
    let lefts : ℕ = length l.clauses in
    let rights : ℕ = length r.clauses in
    told_declined l r new.regions new.rows new.holes lefts rights (search rules)
    (shown_after l r old.regions new.regions old.rows new.rows old.holes new.holes lefts rights c.compare.result
    (search rules) (search rules) (search rules) c.compare.ensures.outcome c.compare.ensures.regions c.compare.ensures.rows c.compare.ensures.holes refl refl)

pub returns : goal.returns
returns c =
    let l = sealed_view rejected c.args.left.now in
    let r = sealed_view rejected c.args.right.now in
    let old = c.args.self.now in
    let new = c.compare.new in
    let lefts : ℕ = length c.clauses.result.now in
    let rights : ℕ = length c.clauses-2.result.now in
    told_report l r new.regions new.rows new.holes lefts rights (search rules)
    (shown_after l r old.regions new.regions old.rows new.rows old.holes new.holes lefts rights c.compare.result
    (search rules) (search rules) (search rules) c.compare.ensures.outcome c.compare.ensures.regions c.compare.ensures.rows c.compare.ensures.holes
    (ap length c.clauses.ensures) (ap length c.clauses-2.ensures))
