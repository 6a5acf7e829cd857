use Rattle.std.proofs.Common.{◌≡◌, ◌≤◌, length, Ok, sym, ◌∙◌, rules, arith}
use Rattle.std.proofs.lemmas.Result.{IfOk-at_ok}
use Rattle.filterfile.specs.Files.{head_of}
use Rattle.filterfile.proofs.Accepting.{settled}
use Rattle.filterfile.proofs.Handing.{all-put}
use Rattle.filterfile.proofs.Heads.{head_read}
use Rattle.fields.proofs.Seen.{seen-rest}
use Rattle.filterfile.proofs.WholeFiles.{whole_file}
use Rattle.filterfile.proofs.files.read_file.Goals as goal

pub returns-in_err-rest : goal.returns-in_err-rest
returns-in_err-rest g c =
    settled g.R.Recorded.reads g.A.RecordedAction.reads c.args.code (length c.args.places.now) c.args.bytes.now _ c.args.places.now _ (search rules) (search rules)

pub returns-in_err-default : goal.returns-in_err-default
returns-in_err-default g c =
    settled g.R.Recorded.reads g.A.RecordedAction.reads c.args.code (length c.args.places.now) c.args.bytes.now _ c.args.places.now _ (search rules) (search rules)

pub returns : goal.returns
returns g c =
    let head : head_of c.args.code (length c.args.places.now) c.args.bytes.now ≡ Ok (c.in_ok-count.count, c.in_ok-count.body.now) = search rules in
    let clauses = seen-rest {r = c.read_clauses.result} c.read_clauses.ensures.rest c.in_ok-rest.was in
    let last = sym c.read_default.ensures ∙ c.in_ok-default.was in
    let whole = whole_file g.R.Recorded.reads g.A.RecordedAction.reads c.args.code (length c.args.places.now) c.args.bytes.now _ _ _ _ head clauses last in
    let room : length whole.clauses ≤ length c.args.places.now = omega (arith, whole.size, (head_read c.args.code (length c.args.places.now) c.args.bytes.now _ _ head).room) in
    let handed = IfOk-at_ok _ whole.read c.read_clauses-2.ensures.kept in
    let put = all-put _ (λ s. s.0) _ whole.clauses _ handed room (λ p number clause q step within. search rules) in
    let same = sym put.0 in
    let filled = put.1 in
    let after = whole.places c.args.places.now in
    settled g.R.Recorded.reads g.A.RecordedAction.reads c.args.code (length c.args.places.now) c.args.bytes.now _ c.args.places.now _
    whole.answer (search (rules, same, filled, after))
