-- A row's place among ordered ones, and the row put there.
use Rattle.std.proofs.Common.{◌≡◌, ℕ, ◌+◌, ◌<◌, ◌≤◌, Bool, cond, ltb, leb, List, ◌++◌, length, take, drop, Ok, Option, Result, refl, ap, ◌∙◌, arith, length-take}
use Rattle.std.specs.List.{insert, position, position_or_len}
use Rattle.std.specs.Option.{unwrap_or}
use Rattle.std.proofs.lemmas.Grind.{common_steps}
use Rattle.std.proofs.lemmas.List.Recursion.{is_position_or_len}
use Rattle.std.proofs.lemmas.List.Edits.{length-insert}
use Rattle.std.proofs.lemmas.List.{take_at}
use Rattle.std.proofs.lemmas.Bool.{cond-false, le-ltb, lt-leb}
use Rattle.filter.specs.Ledger.{if_done, insert_at_answer}
use Rattle.filter.specs.declared.errors.EditError.{EditError}
use Rattle.family.specs.Lists.{first_where}
use Rattle.family.proofs.Searches.{first-bound}
use Rattle.compare.specs.declared.rows.Row.{Row}
use Rattle.compare.specs.Rows.{precedes, ranked}

-- the place that a look through a list finds, or the end
pub place_found : {X : Type 0} (p : X → Bool) (xs : List X) (r : Option ℕ) → r ≡ position p xs → unwrap_or r (length xs) ≡ first_where p xs
place_found p xs r e =
    let first : first_where p xs ≡ position_or_len p xs = is_position_or_len (first_where p) p refl (λ y ys. ap (cond (p y) 0) (omega arith)) xs in
    let low = first-bound p xs in
    ap (λ o. unwrap_or o (length xs)) e ∙ grind (arith, common_steps)

module _ (found : List Row) (count : ℕ) (row : Row) (fits : count < length found) where
  long : length (take count found) ≡ count
  long = omega (arith, length-take count found)

  pub put-ranked : (place : ℕ) (r : Result (Unit {0}) EditError) (after : List Row) → place ≡ first_where (precedes row) (take count found) → r ≡ insert_at_answer count (length found) place → after ≡ if_done r (insert (take count found) place row ++ drop (count + 1) found) found → take (count + 1) after ≡ ranked (take count found) row
  put-ranked place r after e t a =
      let low : place ≤ count = omega (arith, first-bound (precedes row) (take count found), long) in
      let put : r ≡ Ok tt = t ∙ cond-false (ltb count place) _ _ (le-ltb _ _ low) ∙ cond-false (leb (length found) count) _ _ (lt-leb _ _ fits) in
      let size : length (insert (take count found) place row) ≡ count + 1 = length-insert (take count found) place row (omega (arith, long)) ∙ ap (λ n. n + 1) long in
      ap (take (count + 1)) (a ∙ ap (λ o. if_done o (insert (take count found) place row ++ drop (count + 1) found) found) put)
      ∙ take_at (insert (take count found) place row) (drop (count + 1) found) (count + 1) size
      ∙ ap (λ k. insert (take count found) k row) e
