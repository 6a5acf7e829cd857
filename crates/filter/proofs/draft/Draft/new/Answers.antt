use Rattle.std.proofs.Common.{◌≡◌, ◌-◌, length, set, ap, ◌∙◌}
use Rattle.filter.specs.Views.{view_of, with_default}
use Rattle.filter.proofs.Viewed.{fresh}
use Rattle.filter.proofs.draft.Draft.new.Goals as goal

pub returns-clause-view : goal.returns-clause-view
returns-clause-view g c =
    let places = c.args.places.now in
    let whole = g.R.Family.whole in
    let default : c.default_place.result ≡ record { region = whole; action = g.A.ActionKind.reject } = c.default_place.ensures ∙ ap (λ a. record { region = whole; action = a }) c.rejecting.ensures in
    let put : c.put_last.new.places ≡ with_default whole places g.A.ActionKind.reject = c.put_last.ensures ∙ ap (set places (length places - 1)) default in
    ap (λ l. view_of g.A.ActionKind.reject l 0) put ∙ fresh whole places g.A.ActionKind.reject
