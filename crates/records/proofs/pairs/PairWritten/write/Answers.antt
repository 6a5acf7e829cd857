use Rattle.buffers.proofs.Putting.{◌then◌}
use Rattle.records.proofs.pairs.PairWritten.write.Goals as goal

pub returns-clause-bytes : goal.returns-clause-bytes
returns-clause-bytes g c = c.write.ensures.bytes then c.write-2.ensures.bytes
