use Rattle.std.proofs.Common.{sym, ap}
use Rattle.listing.specs.Declines.{declined_text}
use Rattle.buffers.proofs.Putting.{same_text, ◌then◌}
use Rattle.listing.proofs.declines.DeclinedText.put.Goals as goal

pub returns-in-Left-clause-bytes : goal.returns-in-Left-clause-bytes
unfolding declined_text
returns-in-Left-clause-bytes c =
    same_text (ap declined_text (sym c.in-Left.is)) (c.put_bytes.ensures then c.put_fault.ensures)

pub returns-in-Right-clause-bytes : goal.returns-in-Right-clause-bytes
unfolding declined_text
returns-in-Right-clause-bytes c =
    same_text (ap declined_text (sym c.in-Right.is))
    (c.put_bytes-in-Right.ensures then c.put_fault-in-Right.ensures)

pub returns-in-Comparison-clause-bytes : goal.returns-in-Comparison-clause-bytes
unfolding declined_text
returns-in-Comparison-clause-bytes c =
    same_text (ap declined_text (sym c.in-Comparison.is))
    (c.put_bytes-in-Comparison.ensures then c.put_octet.ensures then c.put_byte.ensures)
