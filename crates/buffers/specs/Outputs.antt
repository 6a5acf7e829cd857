-- A text put into an output.
use Rattle.std.specs.Prelude.{◌≡◌, ℕ, List}
use Rattle.buffers.specs.Buffers.{Placed}
use Rattle.buffers.specs.declared.outputs.Output.{Output}

-- the text was put at the output's place, and its buffer is the one that it was
pub record Puts (before : Output) (text : List ℕ) (after : Output) : Type 0 where
  pub placed : Placed before.bytes.now before.place text after.place after.bytes.now
  pub lender : after.bytes.ghost_name ≡ before.bytes.ghost_name
