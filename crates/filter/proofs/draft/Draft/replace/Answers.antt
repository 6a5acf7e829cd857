use Rattle.filter.proofs.Edited.{view-replaced}
use Rattle.filter.proofs.draft.Draft.replace.Goals as goal

pub returns-clause-view : goal.returns-clause-view
returns-clause-view g c =
    let draft = c.args.self.now in
    view-replaced g.A.ActionKind.reject draft.places.now draft.count draft.fits c.args.place c.args.clause _ c.replace_at.result c.replace_at.ensures.answer c.replace_at.ensures.memory
