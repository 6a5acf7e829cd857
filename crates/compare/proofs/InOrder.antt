-- Lists in which each element stands in order before all that follow it.
use Rattle.std.proofs.Common.{◌≡◌, ℕ, zero, suc, ◌<◌, Bool, true, false, cond, List, [], ◌∷◌, Some, filter, subst, arith}
use Rattle.std.specs.List.{AllByRecursion, slice_get}
use Rattle.std.proofs.ByRecursion.{all_kept_by}
use Rattle.compare.proofs.Members.{nothing, all_member, nth_member}

module _ {X : Type 0} (Order : X → X → Type 0) where
  abbrev pub InOrder : List X → Type 0
  InOrder [] = Unit {0}
  InOrder (x ∷ xs) = AllByRecursion (Order x) xs × InOrder xs

  -- by places
  pub nth_in_order : (xs : List X) (j k : ℕ) (a b : X) → InOrder xs → j < k → slice_get xs j ≡ Some a → slice_get xs k ≡ Some b → Order a b
  nth_in_order [] j k a b s h ej ek = nothing ej
  nth_in_order (x ∷ xs) zero zero a b s h ej ek = absurd (omega arith)
  nth_in_order (x ∷ xs) zero (suc k) a b s h ej ek =
      let same : x ≡ a = cc in
      subst (λ y. Order y b) same (all_member (Order x) b xs s.0 (nth_member xs k b ek))
  nth_in_order (x ∷ xs) (suc j) zero a b s h ej ek = absurd (omega arith)
  nth_in_order (x ∷ xs) (suc j) (suc k) a b s h ej ek = nth_in_order xs j k a b s.1 (omega arith) ej ek

  -- a filter keeps the order
  pub kept_in_order : (p : X → Bool) (xs : List X) → InOrder xs → InOrder (filter p xs)
  kept_in_order p [] s = tt
  kept_in_order p (x ∷ xs) s = by (p x) (kept_in_order p xs s.1)
    where
      by : (b : Bool) → InOrder (filter p xs) → InOrder (cond b (x ∷ filter p xs) (filter p xs))
      by true more = (all_kept_by p (Order x) xs s.0, more)
      by false more = more
