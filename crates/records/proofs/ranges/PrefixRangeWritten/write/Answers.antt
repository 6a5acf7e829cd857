use Rattle.std.proofs.Common.{ap}
use Rattle.buffers.proofs.Putting.{◌then◌, same_text}
use Rattle.supplied.specs.PrefixRanges.{prefix_holds}
use Rattle.fields.specs.Reading.{outcome_of, held_in}
use Rattle.records.specs.RangeUndoing.{range_undoing}
use Rattle.records.proofs.ranges.PrefixRangeWritten.write.Goals as goal

pub returns-clause-bytes : goal.returns-clause-bytes
returns-clause-bytes c =
    same_text
    (rw (c.map_of.ensures, c.address.ensures, c.length.ensures, c.length-2.ensures, c.low.ensures, c.low-2.ensures, c.high.ensures))
    (c.put_byte.ensures then c.put_given.ensures then c.put_given-2.ensures then c.put_given-3.ensures then c.put_given-4.ensures)

pub returns-clause-meaning : goal.returns-clause-meaning
returns-clause-meaning c =
    λ behind point. ap (λ r. held_in prefix_holds (outcome_of r) point) (range_undoing.read_back c.args.self tt behind)
