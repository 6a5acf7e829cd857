use Rattle.std.proofs.Common.{ℕ, ◌+◌, ◌-◌, ◌*◌, take, drop, ap, ◌∙◌, arith}
use Rattle.buffers.proofs.Putting.{same_text}
use Rattle.listing.proofs.Spelling.{printed_part}
use Rattle.listing.proofs.octets.put_octet.Goals as goal

pub returns : goal.returns
returns c =
    let n : ℕ = c.args.octet in
    let z : ℕ = c.leading_zeros.result in
    same_text
    (ap (λ t. take (3 * n + 3 - (3 * n + z)) (drop (3 * n + z) t)) c.spelled_octets.ensures ∙ printed_part n z (omega arith) c.leading_zeros.ensures)
    c.put_bytes.ensures
