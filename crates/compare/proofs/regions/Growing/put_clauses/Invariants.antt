use Rattle.std.proofs.Common.{take, Some}
use Rattle.compare.specs.Growing.{so_far, Grows}
use Rattle.compare.specs.Regions.{put_clauses}
use Rattle.compare.proofs.regions.Growing.put_clauses.Given as goal

abbrev pub invariant-loop-clause : goal.invariant-loop-clause
invariant-loop-clause g l = Grows l.fn.self (put_clauses g.R.Family.inside (take l.clause-index l.clauses) (so_far l.fn.self)) (Some tt) l.self
