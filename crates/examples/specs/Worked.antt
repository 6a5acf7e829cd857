-- Worked examples, told by the definitions that the contracts cite.
use Rattle.std.specs.Prelude.{◌≡◌, ℕ, Bool, true, false, List, [], ◌∷◌, Some, None, Ok, Err, codes, Option, Result}
use Rattle.supplied.specs.MadeRanges.{made_range}
use Rattle.supplied.specs.MadeRoutes.{made_route}
use Rattle.supplied.specs.MakeErrors.{number_of}
use Rattle.supplied.specs.PrefixRanges.{prefix_holds, prefix_meet}
use Rattle.supplied.specs.declared.errors.MakeError.{MakeError}
use Rattle.supplied.specs.declared.errors.MakeError.TheVariants.{LowAboveHigh}
use Rattle.supplied.specs.declared.ranges.PrefixRange.{PrefixRange}
use Rattle.supplied.specs.declared.routes.Route.{Route}
use Rattle.fields.specs.declared.faults.FaultKind.TheVariants.{BrokenRule}
use Rattle.fields.specs.declared.faults.Part.TheVariants.{Clause as InClause}
use Rattle.records.specs.RangeRecords.{range_bytes}
use Rattle.compare.specs.declared.reports.Declined.TheVariants.{NoRegionPlace}
use Rattle.files.specs.Checked.{checked}
use Rattle.files.specs.Compared.{files_compared}
use Rattle.files.specs.Printed.{printed_text}
use Rattle.files.specs.Written.{written_answer}
use Rattle.host_calls.specs.Answers.{check_number, compare_number}
use Rattle.examples.specs.Places.{compared_over}

-- the number of the reason why a thing is not made, or 0 where it is
abbrev pub refused_with : {X : Type 0} → Result X MakeError → ℕ
refused_with (Ok x) = 0
refused_with (Err error) = number_of error

-- whether a range holds a route, where both are made
abbrev pub holding : Result PrefixRange MakeError → Result Route MakeError → Option Bool
holding (Ok range) (Ok route) = Some (prefix_holds range route)
holding (Ok range) (Err error) = None
holding (Err error) route = None

-- address, prefix length, low and high of a range, or nothing where there is none
abbrev pub numbers : Option PrefixRange → List ℕ
numbers (Some range) = range.address ∷ range.length ∷ range.low ∷ range.high ∷ []
numbers None = []

abbrev pub meeting : Result PrefixRange MakeError → Result PrefixRange MakeError → List ℕ
meeting (Ok a) (Ok b) = numbers (prefix_meet a b)
meeting (Ok a) (Err error) = []
meeting (Err error) b = []

abbrev pub record_of_range : Result PrefixRange MakeError → List ℕ
record_of_range (Ok range) = range_bytes range
record_of_range (Err error) = []

-- 20.0.0.0, 20.1.0.0, 20.1.2.0 and 30.0.0.0 as numbers
abbrev pub a20 : ℕ
a20 = 335544320

abbrev pub a20_1 : ℕ
a20_1 = 335609856

abbrev pub a20_1_2 : ℕ
a20_1_2 = 335610368

abbrev pub a30 : ℕ
a30 = 503316480

-- a file that rejects a range under 20.0.0.0/8 from length 8 on, and accepts the rest
abbrev pub reject20 : ℕ → List ℕ
reject20 high = 1 ∷ 1 ∷ 11 ∷ 20 ∷ 0 ∷ 0 ∷ 0 ∷ 8 ∷ high ∷ 0 ∷ 1 ∷ []

-- files that reject 30.0.0.0/8 with lengths 8 to 20, or 16 to 32, and accept the rest
abbrev pub low_lengths : List ℕ
low_lengths = 1 ∷ 1 ∷ 11 ∷ 30 ∷ 0 ∷ 0 ∷ 0 ∷ 8 ∷ 20 ∷ 0 ∷ 1 ∷ []

abbrev pub high_lengths : List ℕ
high_lengths = 1 ∷ 1 ∷ 15 ∷ 30 ∷ 0 ∷ 0 ∷ 0 ∷ 8 ∷ 16 ∷ 32 ∷ 0 ∷ 1 ∷ []

-- a file that rejects every route of length 1, and one that rejects the two halves one by one
abbrev pub one_bit : List ℕ
one_bit = 1 ∷ 1 ∷ 4 ∷ 1 ∷ 0 ∷ 1 ∷ []

abbrev pub two_halves : List ℕ
two_halves = 1 ∷ 2 ∷ 2 ∷ 1 ∷ 0 ∷ 3 ∷ 128 ∷ 0 ∷ 0 ∷ 0 ∷ 1 ∷ 0 ∷ 1 ∷ []

pub record Worked : Type 0 where
  -- 20.0.0.0/8 with lengths 8 to 24 holds 20.1.2.0/24 and not 20.1.2.0/25
  pub held : holding (made_range a20 8 8 24) (made_route a20_1_2 24) ≡ Some true
  pub too_long : holding (made_range a20 8 8 24) (made_route a20_1_2 25) ≡ Some false
  -- lengths 8 to 20 and 16 to 32 under one prefix meet in 16 to 20; lengths 8 to 16 and 17 to 24 do not meet
  pub meet : meeting (made_range a30 8 8 20) (made_range a30 8 16 32) ≡ a30 ∷ 8 ∷ 16 ∷ 20 ∷ []
  pub no_meet : meeting (made_range a20 8 8 16) (made_range a20_1 16 17 24) ≡ []
  -- low below the prefix length is refused with 3, an address bit behind the length with 2
  pub low-refused : refused_with (made_range a20 8 7 8) ≡ 3
  pub bit_refused : refused_with (made_range a20_1 8 8 8) ≡ 2
  pub route_refused : refused_with (made_route a20_1 8) ≡ 2
  -- 20.0.0.0/8 with lengths 8 to 24 in bytes
  pub bytes : record_of_range (made_range a20 8 8 24) ≡ 11 ∷ 20 ∷ 0 ∷ 0 ∷ 0 ∷ 8 ∷ 24 ∷ []
  -- one range is shorter on the right
  pub shorter : printed_text (reject20 24) (reject20 16) ≡ codes "rows 1\n0 d 20.0.0.0/8 8-24 - 20.0.0.0/8 8-16\n"
  -- two ranges that overlap: neither is inside the other, and each has their meet as its hole
  pub overlap : printed_text low_lengths high_lengths ≡ codes "rows 2\n0 d 30.0.0.0/8 8-20 - 30.0.0.0/8 16-20\nd 0 30.0.0.0/8 16-32 - 30.0.0.0/8 16-20\n"
  -- over three region places their comparison is declined, over four it is not
  pub three_places : compared_over low_lengths high_lengths 3 2 2 ≡ Some (Err NoRegionPlace)
  pub four_places : compared_over low_lengths high_lengths 4 2 2 ≡ Some (Ok (record { regions = 4; rows = 2; holes = 2 }))
  -- a range that its two halves cover has an empty cell: no row
  pub covered : printed_text one_bit two_halves ≡ codes "rows 0\n"
  -- two empty filters, defaults reject and accept
  pub defaults : printed_text (1 ∷ 0 ∷ 0 ∷ []) (1 ∷ 0 ∷ 1 ∷ []) ≡ codes "rows 1\nd d 0.0.0.0/0 0-32\n"
  -- a local preference of 100 is not alike to an absent one
  pub preference : printed_text (1 ∷ 0 ∷ 3 ∷ 0 ∷ 0 ∷ 0 ∷ 100 ∷ []) (1 ∷ 0 ∷ 1 ∷ []) ≡ codes "rows 1\nd d 0.0.0.0/0 0-32\n"
  -- files as a host checks them: one of packets that is good; a verdict with a bit beside accept; a code that no family has;
  -- no byte at all
  pub good_packets : check_number (checked (3 ∷ 1 ∷ 0 ∷ 3 ∷ 6 ∷ 6 ∷ 1 ∷ 4 ∷ 0 ∷ 1 ∷ 0 ∷ [])) ≡ 0
  pub verdict_bit : check_number (checked (3 ∷ 0 ∷ 3 ∷ [])) ≡ 65551
  pub other_code : check_number (checked (4 ∷ 0 ∷ 0 ∷ [])) ≡ 65549
  pub no_byte : check_number (checked []) ≡ 65548
  -- protocols from 17 to 6: told at the map of that span, in clause 0
  pub upside_down : checked (3 ∷ 1 ∷ 0 ∷ 3 ∷ 17 ∷ 6 ∷ 0 ∷ 1 ∷ 0 ∷ []) ≡ Err (record { kind = BrokenRule LowAboveHigh; part = InClause 0; place = 3 })
  -- a listing that the host's buffer is too short for
  pub short_buffer : compare_number (written_answer (0 ∷ 0 ∷ []) (files_compared (reject20 24) (reject20 16))) ≡ 65555
