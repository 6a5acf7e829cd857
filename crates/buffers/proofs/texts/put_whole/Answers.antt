use Rattle.std.proofs.Common.{rules}
use Rattle.buffers.proofs.Putting.{whole}
use Rattle.buffers.proofs.texts.put_whole.Goals as goal

pub returns-clause-bytes : goal.returns-clause-bytes
returns-clause-bytes g c =
    whole _ _ c.new-output.ensures.place c.new-output.ensures.memory c.put.ensures.bytes c.len.ensures (search rules)
