-- A text put into a buffer. Places go on behind the buffer's end, and a byte put there is lost.
use Rattle.std.specs.Prelude.{◌≡◌, ℕ, ◌+◌, ◌-◌, ◌^◌, ◌<◌, min, cond, List, [], ◌∷◌, ◌++◌, length, drop, Some, None, Option, nat_le, slice_set}

-- the buffer with the text from the place on
abbrev pub over : List ℕ → ℕ → List ℕ → List ℕ
over buffer at [] = buffer
over buffer at (b ∷ text) = over (slice_set buffer at b) (at + 1) text

-- a number, or the largest of 64 bits
abbrev pub capped : ℕ → ℕ
capped n = min n (2 ^ 64 - 1)

-- the text was put at the place and nothing else was changed; the end is the place behind it
pub record Placed (before : List ℕ) (at : ℕ) (text : List ℕ) (end : ℕ) (after : List ℕ) : Type 0 where
  -- as of every slice
  pub small : length before < 2 ^ 64
  pub ends : end ≡ capped (at + length text)
  pub bytes : after ≡ over before at text

-- a text written whole to the front of a buffer: what the buffer holds, and the length that is answered.
-- A buffer that is shorter than the text stays as it is, with no answer.
abbrev pub written : List ℕ → List ℕ → List ℕ
written buffer text = cond (nat_le (length text) (length buffer)) (text ++ drop (length text) buffer) buffer

abbrev pub written_length : List ℕ → List ℕ → Option ℕ
written_length buffer text = cond (nat_le (length text) (length buffer)) (Some (length text)) None
