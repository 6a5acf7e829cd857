use Rattle.std.proofs.Common.{sym, ap, ◌∙◌, arith}
use Rattle.filter.specs.Ledger.{if_done, inserted_places}
use Rattle.filter.proofs.Edited.{size, view-inserted, view-not-inserted}
use Rattle.filter.proofs.Shifted.{insert_in_front, answer_in_front}
use Rattle.filter.proofs.draft.Draft.insert.Goals as goal

pub returns-in_err-insert_at-clause-view : goal.returns-in_err-insert_at-clause-view
returns-in_err-insert_at-clause-view g c =
    let draft = c.args.self.now in
    let places = draft.places.now in
    let usable = c.usable_places-usable in
    let tried = c.insert_at in
    view-not-inserted g.A.ActionKind.reject places draft.count draft.fits c.args.place c.args.clause _ tried.result _ (sym c.in_err-insert_at.was)
    (answer_in_front places usable.result draft.count c.args.place c.args.clause (omega (arith, usable.ensures)) _ tried.result usable.ensures tried.ensures.answer)
    (insert_in_front places usable.result draft.count c.args.place c.args.clause (omega (arith, usable.ensures)) tried.new.places tried.result tried.ensures.answer tried.ensures.memory)

pub returns-clause-view : goal.returns-clause-view
returns-clause-view g c =
    let draft = c.args.self.now in
    let places = draft.places.now in
    let usable = c.usable_places-usable in
    let tried = c.insert_at in
    view-inserted g.A.ActionKind.reject places draft.count draft.fits c.args.place c.args.clause _ tried.result (sym c.in_ok-insert_at.was)
    (answer_in_front places usable.result draft.count c.args.place c.args.clause (omega (arith, usable.ensures)) _ tried.result usable.ensures tried.ensures.answer)
    (insert_in_front places usable.result draft.count c.args.place c.args.clause (omega (arith, usable.ensures)) tried.new.places tried.result tried.ensures.answer tried.ensures.memory)

pub returns-clause-memory : goal.returns-clause-memory
returns-clause-memory g c =
    let draft = c.args.self.now in
    let places = draft.places.now in
    let usable = c.usable_places-usable in
    let tried = c.insert_at in
    insert_in_front places usable.result draft.count c.args.place c.args.clause (omega (arith, usable.ensures)) tried.new.places tried.result tried.ensures.answer tried.ensures.memory
    ∙ ap (λ o. if_done o (inserted_places places draft.count c.args.place c.args.clause) places) c.in_ok-insert_at.was
    ∙ ap (λ k. inserted_places places k c.args.place c.args.clause) (size g.A.ActionKind.reject places draft.count draft.fits)
