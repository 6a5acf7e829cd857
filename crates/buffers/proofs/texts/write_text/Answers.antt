use Rattle.std.proofs.Common.{arith}
use Rattle.buffers.proofs.Placing.{answered, held}
use Rattle.buffers.proofs.texts.write_text.Goals as goal

pub returns-clause-answer : goal.returns-clause-answer
returns-clause-answer g c = answered c.put_whole.ensures.bytes (omega arith)

pub returns-clause-bytes : goal.returns-clause-bytes
returns-clause-bytes g c = held c.put_whole.ensures.bytes (omega arith)
