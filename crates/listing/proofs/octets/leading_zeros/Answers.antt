use Rattle.std.proofs.Common.{arith}
use Rattle.listing.proofs.Spelling.{one_long, two_long, three_long}
use Rattle.listing.proofs.octets.leading_zeros.Goals as goal

pub returns-in-0-to-9 : goal.returns-in-0-to-9
returns-in-0-to-9 c = omega (arith, one_long c.args.octet (omega arith))

pub returns-in-10-to-99 : goal.returns-in-10-to-99
returns-in-10-to-99 c = omega (arith, two_long c.args.octet (omega arith) (omega arith))

pub returns-in_default : goal.returns-in_default
returns-in_default c = omega (arith, three_long c.args.octet (omega arith) (omega arith))
