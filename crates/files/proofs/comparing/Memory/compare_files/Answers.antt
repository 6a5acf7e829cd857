use Rattle.std.proofs.Common.{◌≡◌, Ok, ◌∙◌, rules}
use Rattle.std.proofs.lemmas.Result.{MatchResult-at_ok}
use Rattle.supplied.specs.Actions.{rejected}
use Rattle.filter.specs.States.{sealed_view}
use Rattle.files.specs.Compared.{Filter}
use Rattle.files.proofs.Shown.{both_read}
use Rattle.files.proofs.comparing.Memory.compare_files.Goals as goal

pub returns : goal.returns
returns c =
    let l : Filter = sealed_view rejected c.in_ok-left.left in
    let r : Filter = sealed_view rejected c.in_ok-right.right in
    let left : c.read_filter.result ≡ Ok c.in_ok-left.left = search rules in
    let right : c.read_filter-2.result ≡ Ok c.in_ok-right.right = search rules in
    c.compare_filters.ensures
    ∙ both_read c.args.left.now c.args.right.now l r (MatchResult-at_ok _ _ _ left c.read_filter.ensures) (MatchResult-at_ok _ _ _ right c.read_filter-2.ensures)
