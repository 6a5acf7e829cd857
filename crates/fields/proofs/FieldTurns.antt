-- The fields of a map, one turn at a time: the field of the lowest one, then those of the others.
use Rattle.std.proofs.Common.{◌≡◌, ℕ, ◌-◌, ◌^◌, ◌<◌, List, Ok, Err, Result, sym, ap, ◌∙◌, Bor}
use lib.Bits.{bit_and}
use lib.Count.{ones, count_trailing_zeros}
use Rattle.std.proofs.lemmas.List.{nil_from_length}
use Rattle.fields.specs.declared.faults.RecordFault.{RecordFault}
use Rattle.fields.specs.Layouts.{fields_of, places_of}
use Rattle.fields.specs.Reading.{Read, ◌>>=◌, seen}
use Rattle.fields.proofs.Places.{places_count, places_next, some_one}

-- what is ahead gives the answer that is told
module _ {N : Type 0} (taken : N → ℕ → List ℕ → Read N) {told : Read N} (a : ℕ) (small : a < 2 ^ 8) (numbers : N) (bytes : List ℕ) (ahead : fields_of taken (places_of a) numbers bytes ≡ told) where
  turn : 0 < ones a → ◌>>=◌ (taken numbers (count_trailing_zeros 8 a) bytes) (λ p. fields_of taken (places_of (bit_and a (a - 1))) p.0 p.1) ≡ told
  turn some =
      sym (ap (λ places. fields_of taken places numbers bytes) (places_next a small (some_one a some))) ∙ ahead

  module _ (some : 0 < ones a) {r : Result (N × Bor (List ℕ)) RecordFault} (read : seen r ≡ taken numbers (count_trailing_zeros 8 a) bytes) where
    pub field_read : {more : N} {rest : Bor (List ℕ)} → r ≡ Ok (more, rest) → fields_of taken (places_of (bit_and a (a - 1))) more rest.now ≡ told
    field_read is = rw (← read, is) at (turn some)

    pub field_refused : {fault : RecordFault} → r ≡ Err fault → Err fault ≡ told
    field_refused is = rw (← read, is) at (turn some)

  pub no_field : ones a ≡ 0 → Ok (numbers, bytes) ≡ told
  no_field none =
      sym (ap (λ places. fields_of taken places numbers bytes) (nil_from_length (places_of a) (places_count a small ∙ none))) ∙ ahead
