use Rattle.buffers.proofs.Putting.{same_text, ◌then◌}
use Rattle.listing.proofs.regions.put_region.Goals as goal

pub returns : goal.returns
returns c =
    let p =
    c.put_address.ensures then c.put_byte.ensures then c.put_octet.ensures then c.put_byte-2.ensures
    then c.put_octet-2.ensures then c.put_byte-3.ensures then c.put_octet-3.ensures in
    same_text (cc) p
