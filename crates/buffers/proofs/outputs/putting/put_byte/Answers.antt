use Rattle.std.proofs.Common.{sym, ◌∙◌, arith}
use Rattle.std.proofs.lemmas.List.{set_past}
use Rattle.buffers.proofs.Placing.{placed_byte}
use Rattle.buffers.proofs.outputs.putting.put_byte.Goals as goal
use Rattle.buffers.proofs.outputs.putting.put_byte.Goals.{then-at-out, else-at-out}

pub returns : goal.returns
returns c =
    placed_byte (omega arith) c.saturating_add.ensures
    (elim c.if-at-out.branch [
      | then-at-out w ↦ w.out-is
      | else-at-out w ↦ w.out-is ∙ sym (set_past c.args.out.now c.args.at c.args.byte (omega arith))
    ])
