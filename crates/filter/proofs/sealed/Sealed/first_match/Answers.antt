use Rattle.std.proofs.Common.{sym, ap, subst, rules}
use Rattle.family.proofs.Searches.{first-bound, first-before, first-here}
use Rattle.filter.specs.Ledger.{holding, FirstHolding}
use Rattle.filter.specs.States.{sealed_view}
use Rattle.filter.proofs.sealed.Sealed.first_match.Goals as goal

pub returns-clause-first : goal.returns-clause-first
returns-clause-first g c =
    let holds = g.R.Family.holds in
    let v = sealed_view g.A.ActionKind.reject c.args.self.now in
    let told = c.decided_by.ensures (λ r. holds r c.args.point) (λ r b k. search rules) in
    let test = holding holds c.args.point in
    subst (FirstHolding holds v.clauses c.args.point) (sym (ap (λ x. x.0) told))
    (record { within = first-bound test v.clauses; before = first-before test v.clauses; here = first-here test v.clauses })
