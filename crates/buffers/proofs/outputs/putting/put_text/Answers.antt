use Rattle.std.proofs.Common.{sym, arith}
use Rattle.std.proofs.lemmas.List.{take_more, take_all}
use Rattle.buffers.proofs.Placing.{placed_same, ◌then◌}
use Rattle.buffers.proofs.outputs.putting.put_text.Goals as goal

pub loop-byte-preserved : goal.loop-byte-preserved
loop-byte-preserved c =
    placed_same (sym (take_more c.args.text.now c.loop-byte.byte-index 0 (omega arith)))
    (c.loop-byte.invariant then c.put_byte-end.ensures)

pub returns : goal.returns
returns c = placed_same (take_all c.loop-byte.byte-index c.args.text.now (omega arith)) c.loop-byte.invariant
