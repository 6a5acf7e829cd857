use Rattle.buffers.proofs.Putting.{◌then◌}
use Rattle.listing.proofs.declines.put_fault.Goals as goal

pub returns : goal.returns
returns c = c.put_octet.ensures then c.put_byte.ensures then c.put_number.ensures then c.put_byte-2.ensures
