use Rattle.std.proofs.Common.{◌-◌, length, set, ap, ◌∙◌, arith}
use Rattle.std.proofs.lemmas.Grind.{common_steps}
use Rattle.filter.specs.Views.{view_of}
use Rattle.filter.proofs.Edited.{view-redefaulted}
use Rattle.filter.proofs.draft.Draft.set_default.Goals as goal

pub returns-clause-view : goal.returns-clause-view
returns-clause-view g c =
    let draft = c.args.self.now in
    let places = draft.places.now in
    ap (λ p. view_of g.A.ActionKind.reject (set places (length places - 1) p) draft.count) c.default_place.ensures
    ∙ view-redefaulted g.A.ActionKind.reject places g.R.Family.whole draft.count c.args.action (grind (arith, common_steps))
