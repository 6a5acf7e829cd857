-- The clause that a look through a filter's clauses finds, or none.
use Rattle.std.proofs.Common.{◌≡◌, ℕ, suc, ◌+◌, ◌<◌, ◌≤◌, Bool, cond, List, map, length, get_or, Some, None, sym, refl, ap, ◌∙◌, arith}
use lib.ListN.{length-map}
use Rattle.std.specs.List.{position, position_or_len}
use Rattle.std.proofs.lemmas.Grind.{common_steps}
use Rattle.std.proofs.lemmas.List.{get_or-map, get_or_past}
use Rattle.std.proofs.lemmas.List.Recursion.{is_position_or_len}
use Rattle.family.specs.Clauses.{action_at}
use Rattle.family.specs.Lists.{first_where}
use Rattle.family.specs.declared.clauses.Clause.{Clause}
use Rattle.family.proofs.Searches.{first-bound}
use Rattle.filter.specs.Ledger.{passing, decision}
use Rattle.filter.specs.Views.{View}

module _ {X : Type 0} (p : X → Bool) (xs : List X) where
  first-is : first_where p xs ≡ position_or_len p xs
  first-is = is_position_or_len (first_where p) p refl (λ y ys. let e : suc (first_where p ys) ≡ 1 + first_where p ys = omega arith in ap (cond (p y) 0) e) xs

  found : (place : ℕ) → position p xs ≡ Some place → (place ≡ first_where p xs) × (place < length xs)
  found place e =
      let at : position_or_len p xs ≡ place = grind (arith, common_steps) in
      let within : place < length xs = grind (arith, common_steps) in
      (sym at ∙ sym first-is, within)

  missed : position p xs ≡ None → length xs ≡ first_where p xs
  missed e =
      let past : length xs ≤ position_or_len p xs = grind (arith, common_steps) in
      omega (arith, first-bound p xs, first-is)

module _ {R A : Type 0} (passes : R → Bool) (v : View R A) (clauses : List (Clause R A)) (same : clauses ≡ v.clauses) where
  decided : (default : A) → default ≡ v.default → ◌≡◌ {A = ℕ × A} (first_where (passing passes) clauses, action_at clauses default (first_where (passing passes) clauses)) (decision passes v)
  decided default e =
      ap (λ l. decision passes (record { clauses = l; default = default; room = v.room })) same
      ∙ ap (λ a. decision passes (record { clauses = v.clauses; default = a; room = v.room })) e

  pub decided-at : (place : ℕ) (c : Clause R A) → position (passing passes) clauses ≡ Some place → ◌≡◌ {A = ℕ × A} (place, (get_or clauses place c).action) (decision passes v)
  decided-at place c e =
      let here = found (passing passes) clauses place e in
      let action : (get_or clauses place c).action ≡ action_at clauses v.default place = sym (get_or-map (λ x. x.action) clauses place c v.default here.1) in
      let pair : A → ℕ × A = λ a. (place, a) in
      let at : ℕ → ℕ × A = λ n. (n, action_at clauses v.default n) in
      ap pair action ∙ ap at here.0 ∙ decided v.default refl

  pub undecided : (default : A) → default ≡ v.default → position (passing passes) clauses ≡ None → ◌≡◌ {A = ℕ × A} (length clauses, default) (decision passes v)
  undecided default is e =
      let past : default ≡ action_at clauses default (length clauses) = sym (get_or_past (map (λ x. x.action) clauses) (length clauses) default (omega (arith, length-map clauses (λ x. x.action)))) in
      let pair : A → ℕ × A = λ a. (length clauses, a) in
      let at : ℕ → ℕ × A = λ n. (n, action_at clauses default n) in
      ap pair past ∙ ap at (missed (passing passes) clauses e) ∙ decided default is
