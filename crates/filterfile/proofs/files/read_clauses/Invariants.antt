use Rattle.std.proofs.Common.{◌≡◌, ◌-◌}
use denote.Param.Always.{always_mut}
use Rattle.filterfile.specs.Files.{clauses_of, behind_of}
use Rattle.filterfile.proofs.Handing.{Handed}
use Rattle.filterfile.proofs.files.read_clauses.Given as goal

-- the clauses that are still to come end where all of them do, and where they are handed over, all are
abbrev pub invariant-loop-number : goal.invariant-loop-number
invariant-loop-number g l =
    let clauses = clauses_of g.R.Recorded.reads g.A.RecordedAction.reads l.total in
    let handed = Handed g.R.Recorded.reads g.A.RecordedAction.reads (goal.F-step g) l.total in
    record {
      callable : always_mut g.F.FnMut l.keep;
      rest : behind_of (clauses (l.count - l.number-counter) l.number-counter l.rest) ≡ behind_of (clauses l.count 0 l.bytes);
      kept : (last : g.row.F.Denot) → handed (l.count - l.number-counter) l.number-counter l.rest l.keep last → handed l.count 0 l.bytes l.initial.keep last;
    }
