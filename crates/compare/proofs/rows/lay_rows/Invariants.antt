use Rattle.std.proofs.Common.{◌≡◌, ◌++◌, take, drop, sum_by}
use Rattle.compare.specs.Rows.{laid}
use Rattle.compare.proofs.rows.lay_rows.Given as goal

abbrev pub invariant-loop-row : goal.invariant-loop-row
invariant-loop-row l =
    (l.start ≡ sum_by (λ row. row.number) (take l.row-index l.fn.rows))
    × (l.row-items ≡ laid 0 (take l.row-index l.fn.rows) ++ drop l.row-index l.fn.rows)
