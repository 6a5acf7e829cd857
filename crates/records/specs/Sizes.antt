-- How many bytes a record takes: its map, and as many fields as the map has ones, an accept bit not counted.
use Rattle.std.specs.Prelude.{ℕ, ◌+◌, ◌-◌, ◌*◌, ◌%◌, count_ones}
use Rattle.records.specs.SpanRecords.{span_width}

-- a field of a prefix range has one byte, and the address three more
abbrev pub range_size : ℕ → ℕ
range_size map = 1 + count_ones map + 3 * (map % 2)

-- a field of an action has four bytes, and a verdict has none
abbrev pub action_size : ℕ → ℕ
action_size map = 1 + 4 * (count_ones map - map % 2)

-- an end of a span has the bytes of its kind
abbrev pub span_size : ℕ → ℕ → ℕ
span_size top map = 1 + span_width top * count_ones map
