-- The numbers of a list's elements, as a range gives them.
use Rattle.std.proofs.Common.{◌≡◌, ℕ, suc, List, [], ◌∷◌, length, refl, ap, ◌∙◌, add-one}
use Rattle.std.specs.List.{range_with_len}
use Rattle.compare.specs.Cells.{numbers}

pub counted : {X : Type 0} (i : ℕ) (xs : List X) → range_with_len i (length xs) ≡ numbers i xs
counted i [] = refl
counted i (x ∷ xs) = ap (λ k. i ∷ range_with_len k (length xs)) (add-one i) ∙ ap (λ l. i ∷ l) (counted (suc i) xs)
