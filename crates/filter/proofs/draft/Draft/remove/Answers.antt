use Rattle.std.proofs.Common.{sym}
use Rattle.filter.proofs.Edited.{view-removed}
use Rattle.filter.proofs.draft.Draft.remove.Goals as goal

pub returns-clause-view : goal.returns-clause-view
returns-clause-view g c =
    let draft = c.args.self.now in
    view-removed g.A.ActionKind.reject draft.places.now draft.count draft.fits c.args.place _ c.remove_at.result (sym c.in_ok-remove_at.was) c.remove_at.ensures.answer c.remove_at.ensures.memory
