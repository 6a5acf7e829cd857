use Rattle.std.proofs.Common.{◌≡◌, ◌-◌, length, set, Err, sym, refl, ap, ◌∙◌, rules}
use Rattle.filterfile.specs.Files.{file_of, places_after}
use Rattle.filter.specs.Views.{view_of, with_default, loaded_view, loaded_places, load_answer}
use Rattle.filter.proofs.Loaded.{file-refused, view-loaded}
use Rattle.filter.proofs.draft.Draft.load.Goals as goal

pub returns-in_err-count : goal.returns-in_err-count
returns-in_err-count g c =
    let draft = c.args.self.now in
    let places = draft.places.now in
    let reject = g.A.ActionKind.reject in
    let file = file_of g.R.Recorded.reads g.A.RecordedAction.reads c.args.code (length places) c.args.bytes.now in
    let refused = file-refused file _ (sym c.read_file.ensures.answer ∙ c.in_err-count.was) in
    let answered : c.from_residual.result ≡ Err c.in_err-count.field-0.0 = search rules in
    let front : c.read_file.new.places ≡ places_after places file = c.read_file.ensures.places in
    let same : c.read_file.new.places ≡ places = front ∙ ap (places_after places) refused in
    record {
      answer = answered ∙ ap load_answer (sym refused);
      view = ap (λ l. view_of reject l draft.count) same ∙ ap (loaded_view (view_of reject places draft.count)) (sym refused);
      memory = same ∙ ap (loaded_places g.R.Family.whole places) (sym refused);
      lender = refl;
    }

pub returns-clause-view : goal.returns-clause-view
returns-clause-view g c =
    let draft = c.args.self.now in
    let places = draft.places.now in
    let whole = g.R.Family.whole in
    let reject = g.A.ActionKind.reject in
    let reads = g.R.Recorded.reads in
    let acts = g.A.RecordedAction.reads in
    let action = c.in_ok-count.default in
    let file = file_of reads acts c.args.code (length places) c.args.bytes.now in
    let after = places_after places file in
    let front : c.read_file.new.places ≡ after = c.read_file.ensures.places in
    let default : c.default_place.result ≡ record { region = whole; action = action } = c.default_place.ensures in
    let put : c.put_last.new.places ≡ with_default whole after action = c.put_last.ensures ∙ ap (λ l. set l (length l - 1) c.default_place.result) front ∙ ap (set after (length after - 1)) default in
    ap (λ l. view_of reject l c.in_ok-count.count) put ∙ view-loaded reads acts c.args.code c.args.bytes.now whole reject places draft.count c.in_ok-count.count action (sym c.read_file.ensures.answer ∙ c.in_ok-count.was)
