use Rattle.filterfile.proofs.Undoing.{file-back, file-kept}
use Rattle.filterfile.proofs.writing.write_file.Goals as goal

pub returns-then-clauses-gt-LIMIT-clause-kept : goal.returns-then-clauses-gt-LIMIT-clause-kept
returns-then-clauses-gt-LIMIT-clause-kept g c =
    file-kept g.met.R.Written.undoing g.met.A.WrittenAction.undoing c.args.code c.args.clauses.now c.args.default

pub returns-clause-back : goal.returns-clause-back
returns-clause-back g c =
    file-back g.met.R.Written.undoing g.met.A.WrittenAction.undoing c.args.code c.args.clauses.now c.args.default c.write_text.ensures.facts.0 c.write_text.ensures.facts.1

pub returns-clause-kept : goal.returns-clause-kept
returns-clause-kept g c =
    file-kept g.met.R.Written.undoing g.met.A.WrittenAction.undoing c.args.code c.args.clauses.now c.args.default
