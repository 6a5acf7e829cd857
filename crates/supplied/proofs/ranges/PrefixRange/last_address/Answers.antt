-- The last address under a prefix is an address.
use Rattle.std.proofs.Common.{arith}
use Rattle.supplied.specs.PrefixValues.{range_values}
use Rattle.supplied.specs.RangeHolds.{range_end}
use Rattle.supplied.proofs.ranges.PrefixRange.last_address.Goals as goal

pub overflow_cast-result-2 : goal.overflow_cast-result-2
overflow_cast-result-2 c = omega (arith, range_end 32 (range_values.to c.args.self))
