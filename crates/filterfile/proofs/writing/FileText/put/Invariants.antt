use Rattle.std.proofs.Common.{take}
use Rattle.std.specs.List.{flat_map}
use Rattle.buffers.specs.Outputs.{Puts}
use Rattle.filterfile.specs.WrittenFiles.{clause_bytes, ClausesFit}
use Rattle.filterfile.proofs.writing.FileText.put.Given as goal

-- the clauses so far are put, and their numbers fit
abbrev pub invariant-loop-clause : goal.invariant-loop-clause
invariant-loop-clause g l =
    record {
      bytes : Puts l.initial.out (flat_map (clause_bytes g.R.Written.writes g.A.WrittenAction.writes) (take l.clause-index l.self.clauses.now)) l.out;
      numbers : ClausesFit g.R.Written.fits g.A.WrittenAction.fits (take l.clause-index l.self.clauses.now);
    }
