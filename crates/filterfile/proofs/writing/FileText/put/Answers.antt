use Rattle.std.proofs.Common.{subst}
use Rattle.std.proofs.lemmas.List.Elements.{All-more}
use Rattle.buffers.proofs.Joining.{joined-take, joined-all}
use Rattle.buffers.proofs.Putting.{◌then◌, same_text}
use Rattle.family.specs.declared.clauses.Clause.{Clause}
use Rattle.filterfile.specs.WrittenFiles.{clause_bytes}
use Rattle.filterfile.proofs.writing.FileText.put.Goals as goal

pub loop-clause-preserved : goal.loop-clause-preserved
loop-clause-preserved g c =
    let bytes = clause_bytes g.R.Written.writes g.A.WrittenAction.writes in
    let clauses = c.args.self.now.clauses.now in
    let i = c.loop-clause.clause-index in
    let item = c.clause-item.result in
    let Fits : Clause g.row.R.Denot g.row.A.Denot → Type 0 = λ c. g.R.Written.fits c.region × g.A.WrittenAction.fits c.action in
    record {
      bytes = same_text (joined-take bytes clauses i item item c.loop-clause-test.true c.clause-item.is)
          (c.loop-clause.invariant.bytes then (c.write.ensures.bytes then c.write-in-loop-clause.ensures.bytes));
      numbers = All-more Fits clauses i item c.loop-clause-test.true c.loop-clause.invariant.numbers (subst Fits c.clause-item.is (c.write.ensures.numbers, c.write-in-loop-clause.ensures.numbers));
    }

pub returns-clause-bytes : goal.returns-clause-bytes
returns-clause-bytes g c =
    let clauses = joined-all (clause_bytes g.R.Written.writes g.A.WrittenAction.writes) c.args.self.now.clauses.now c.loop-clause.clause-index c.loop-clause-test.false in
    c.put_byte.ensures then c.put_byte-2.ensures then same_text clauses c.loop-clause.invariant.bytes then c.write-2.ensures.bytes
