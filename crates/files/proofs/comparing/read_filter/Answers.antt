use Rattle.std.proofs.Common.{◌≡◌, length, ◌∙◌, rules}
use Rattle.supplied.specs.Actions.{rejected}
use Rattle.filter.specs.States.{draft_view, sealed_view}
use Rattle.files.proofs.Shown.{load_read}
use Rattle.files.proofs.comparing.read_filter.Goals as goal

pub returns : goal.returns
returns c =
    let places = length c.new-draft.result.places.now in
    let room : places ≡ 65 = search rules in
    load_read c.args.file.now places room c.in_ok-load.field-0 (draft_view rejected c.new-draft.result) (sealed_view rejected c.seal.result)
    c.in_ok-load.ensures.answer room (c.seal.ensures.view ∙ c.in_ok-load.ensures.view)
