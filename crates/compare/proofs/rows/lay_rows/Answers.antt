use Rattle.std.proofs.Common.{arith}
use Rattle.compare.proofs.LaidOut.{no_row, start-more, start_fits, laid_more}
use Rattle.compare.proofs.rows.lay_rows.Goals as goal

pub overflow_add-start : goal.overflow_add-start
overflow_add-start c = record { fits = omega (arith, start_fits c.args.rows.now c.loop-row.row-items c.loop-row.row-index c.loop-row.start no_row c.loop-row-test.true c.loop-row.invariant.0 c.loop-row.invariant.1) }

pub loop-row-preserved : goal.loop-row-preserved
loop-row-preserved c = (
  start-more c.args.rows.now c.loop-row.row-items c.loop-row.row-index c.loop-row.start no_row c.loop-row-test.true c.loop-row.invariant.0 c.loop-row.invariant.1,
  laid_more c.args.rows.now c.loop-row.row-items c.loop-row.row-index c.loop-row.start no_row c.loop-row-test.true c.loop-row.invariant.0 c.loop-row.invariant.1,
)
