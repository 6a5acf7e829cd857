use Rattle.std.proofs.Common.{◌≡◌, Ok, arith, rules, of_calls}
use Rattle.fields.specs.declared.faults.Part.TheVariants.{Clause as InClause}
use Rattle.filterfile.specs.Files.{in_part, clause_of}
use Rattle.filterfile.proofs.Handing.{handed-next, handed-none}
use Rattle.filterfile.proofs.ClauseTurns.{ends-next}
use Rattle.filterfile.proofs.files.read_clauses.Goals as goal

pub loop-number-preserved : goal.loop-number-preserved
loop-number-preserved g c =
    let number = c.loop-number.number-counter in
    let told = c.loop-number.invariant in
    let read : in_part c.args.total (InClause number) (clause_of g.R.Recorded.reads g.A.RecordedAction.reads c.loop-number.rest.now) ≡ Ok (c.in_ok-clause.clause, c.in_ok-clause.behind.now) = search rules in
    let called = c.keep.ensures in
    record {
      callable = search (rules, of_calls, told.callable);
      rest = ends-next g.R.Recorded.reads g.A.RecordedAction.reads c.args.total c.args.count number (omega arith) c.loop-number.rest.now _ _ read _ told.rest;
      kept = λ last later. told.kept last (handed-next g.R.Recorded.reads g.A.RecordedAction.reads (goal.F-step g) c.args.total c.args.count number _ (omega arith) c.loop-number.keep last _ _ c.keep.new.self read called later);
    }

pub returns-clause-kept : goal.returns-clause-kept
returns-clause-kept g c =
    c.loop-number.invariant.kept _ (handed-none g.R.Recorded.reads g.A.RecordedAction.reads (goal.F-step g) c.args.total c.args.count c.loop-number.number-counter _ c.loop-number.keep (omega arith))
