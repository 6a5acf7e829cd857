use Rattle.std.proofs.Common.{refl}
use Rattle.listing.proofs.octets.spelled_octets.Goals as goal

-- the table and the spelled octets are computed and compared: one test over all 256 entries
pub returns : goal.returns
returns c = refl
