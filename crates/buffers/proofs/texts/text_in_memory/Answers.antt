use Rattle.std.proofs.Common.{arith}
use Rattle.buffers.proofs.Placing.{filled}
use Rattle.buffers.proofs.texts.text_in_memory.Goals as goal

pub returns : goal.returns
returns g c =
    let made = c.in_ok-bytes.ensures.len in
    filled {s = g.T.Text.text c.args.value.now} c.put_whole.ensures.bytes c.in_ok-bytes.bytes.len _ c.deref_mut.ensures.len (omega arith)
