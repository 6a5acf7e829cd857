-- What is answered where a file of at most 64 clauses is written, and what the buffer then holds.
use Rattle.std.proofs.Common.{◌≡◌, ℕ, ◌≤◌, List}
use Rattle.std.proofs.lemmas.Bool.{le-ltb}
use Rattle.buffers.specs.Buffers.{written}
use Rattle.filterfile.specs.WrittenFiles.{answer_in, write_answer, written_file}

module _ (count : ℕ) (few : count ≤ 64) (buffer file : List ℕ) where
  pub answered-few : write_answer count buffer file ≡ answer_in buffer file
  answered-few = rw (le-ltb 64 count few)

  pub written-few : written_file count buffer file ≡ written buffer file
  written-few = rw (le-ltb 64 count few)
