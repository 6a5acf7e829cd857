use Rattle.std.proofs.Common.{take}
use Rattle.buffers.specs.Buffers.{Placed}
use Rattle.buffers.proofs.outputs.putting.put_text.Given as goal

abbrev pub invariant-loop-byte : goal.invariant-loop-byte
invariant-loop-byte l = Placed l.initial.out l.initial.end (take l.byte-index l.text) l.end l.out
