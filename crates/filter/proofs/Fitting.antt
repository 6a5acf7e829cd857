-- What an edit that was done says of its place.
use Rattle.std.proofs.Common.{◌≡◌, ℕ, ◌<◌, ◌≤◌, Ok, arith}
use Rattle.std.proofs.lemmas.Grind.{common_steps}
use Rattle.filter.specs.Ledger.{insert_at_answer, at_answer}

pub insert_fits : (count room place : ℕ) → Ok tt ≡ insert_at_answer count room place → (place ≤ count) × (count < room)
insert_fits count room place e =
    let low : place ≤ count = grind (arith, common_steps) in
    let free : count < room = grind (arith, common_steps) in
    (low, free)

pub at_fits : (count place : ℕ) → Ok tt ≡ at_answer count place → place < count
at_fits count place e = grind (arith, common_steps)
