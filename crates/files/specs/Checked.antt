-- Whether a file of one of the families is good, or its first fault.
use Rattle.std.specs.Prelude.{ℕ, cond, List, Result, ◌==◌, slice_index}
use Rattle.supplied.specs.declared.pairs.Pair.{Pair}
use Rattle.supplied.specs.declared.ranges.PrefixRange.{PrefixRange}
use Rattle.supplied.specs.declared.spans.Span.{Span}
use Rattle.fields.specs.declared.faults.Fault.{Fault}
use Rattle.fields.specs.Layouts.{record_of}
use Rattle.fields.specs.Reading.{Read}
use Rattle.records.specs.ActionRecords.{action_layout}
use Rattle.records.specs.PairRecords.{pair_reads}
use Rattle.records.specs.RangeRecords.{range_layout}
use Rattle.records.specs.SpanRecords.{span_layout}
use Rattle.records.specs.VerdictRecords.{verdict_layout}
use Rattle.filterfile.specs.Files.{file_of}
use Rattle.filter.specs.Views.{load_answer}
use Rattle.files.specs.Compared.{file_read}

-- a prefix range, then the origin AS
abbrev pub origin_read : List ℕ → Read (Pair PrefixRange (Span 4294967295))
origin_read = pair_reads (record_of range_layout) (record_of (span_layout 4294967295))

-- an address, a protocol, a port
abbrev pub packet_read : List ℕ → Read (Pair (Span 4294967295) (Pair (Span 255) (Span 65535)))
packet_read = pair_reads (record_of (span_layout 4294967295)) (pair_reads (record_of (span_layout 255)) (record_of (span_layout 65535)))

-- the first byte tells the family: 2 prefix ranges with an origin AS, 3 packets; else the file is read as one of
-- prefix ranges, code 1. Each has places for 64 clauses and a default.
abbrev pub checked : List ℕ → Result (Unit {0}) Fault
checked file =
    cond (slice_index file 0 == 2) (load_answer (file_of origin_read (record_of action_layout) 2 65 file))
    (cond (slice_index file 0 == 3) (load_answer (file_of packet_read (record_of verdict_layout) 3 65 file))
    (load_answer (file_read file)))
