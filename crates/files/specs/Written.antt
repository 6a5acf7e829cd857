-- A listing written to a lent buffer: what is answered, and what the buffer then holds.
use Rattle.std.specs.Prelude.{ℕ, min, Bool, cond, List, ◌++◌, length, drop, Ok, Err, Result, nat_le}
use Rattle.files.specs.declared.refusals.Refusal.{Refusal}
use Rattle.files.specs.declared.refusals.Unwritten.{Unwritten}
use Rattle.files.specs.declared.refusals.Unwritten.TheVariants.{Refused, TooLong}

-- a listing has room in the buffer and has 65,535 bytes at most
abbrev pub has_room : List ℕ → List ℕ → Bool
has_room buffer text = nat_le (length text) (min 65535 (length buffer))

-- the length of the listing
abbrev pub written_answer : List ℕ → Result (List ℕ) Refusal → Result ℕ Unwritten
written_answer buffer (Ok text) = cond (has_room buffer text) (Ok (length text)) (Err TooLong)
written_answer buffer (Err refusal) = Err (Refused refusal)

-- the listing stands at the front; a buffer that nothing was written to is as it was
abbrev pub buffer_after : List ℕ → Result (List ℕ) Refusal → List ℕ
buffer_after buffer (Ok text) = cond (has_room buffer text) (text ++ drop (length text) buffer) buffer
buffer_after buffer (Err refusal) = buffer
