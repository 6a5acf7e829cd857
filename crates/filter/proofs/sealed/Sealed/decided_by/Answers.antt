use Rattle.std.proofs.Common.{◌≡◌, sym, ◌∙◌, rules, tests}
use Rattle.std.specs.List.{position}
use Rattle.std.proofs.lemmas.Iterator.{YieldsList-from_slice}
use Rattle.std.proofs.lemmas.Iterator.Search.{position_from_yields_List}
use Rattle.filter.specs.Ledger.{passing}
use Rattle.filter.specs.States.{sealed_view}
use Rattle.filter.proofs.Decided.{decided-at, undecided}
use Rattle.filter.proofs.sealed.Sealed.decided_by.Goals as goal

pub returns-in-Some : goal.returns-in-Some
returns-in-Some g c = λ passes e.
    let v = sealed_view g.A.ActionKind.reject c.args.self.now in
    let clauses = c.clauses-clauses.result.now in
    let looked : c.position.result ≡ position (passing passes) clauses = position_from_yields_List (passing passes) _ _ c.position.result c.position.ensures.ran (YieldsList-from_slice _ c.iter.ensures.rest) (λ x b q k. (search (rules, tests), e _ b (search (rules, tests)))) in
    decided-at passes v clauses c.clauses-clauses.ensures c.in-Some.place c.index-clauses-place.result (sym looked ∙ c.in-Some.is)

pub returns : goal.returns
returns g c = λ passes e.
    let v = sealed_view g.A.ActionKind.reject c.args.self.now in
    let clauses = c.clauses-clauses.result.now in
    let looked : c.position.result ≡ position (passing passes) clauses = position_from_yields_List (passing passes) _ _ c.position.result c.position.ensures.ran (YieldsList-from_slice _ c.iter.ensures.rest) (λ x b q k. (search (rules, tests), e _ b (search (rules, tests)))) in
    undecided passes v clauses c.clauses-clauses.ensures c.default.result c.default.ensures (sym looked ∙ c.in-None.is)
