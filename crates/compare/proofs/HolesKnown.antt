-- A region's holes as they are computed: the listed regions strictly inside it and strictly inside no other such, by rising number.
use Rattle.std.proofs.Common.{◌≡◌, ℕ, suc, ◌<◌, Bool, true, not, ◌↔◌, List, [], ◌∷◌, length, ap, arith}
use mathlib.Core.List.{Memᴰ}
use Rattle.std.proofs.lemmas.Bool.{not-true}
use Rattle.compare.specs.Cells.{region_at, numbers, below, above, topmost, nested, holes_of}
use Rattle.compare.specs.Reported.{Rising, IsHole}
use Rattle.compare.proofs.InOrder.{InOrder, nth_in_order, kept_in_order}
use Rattle.compare.proofs.Members.{all_by_member, kept_from, kept_with, any_not, none_passes, numbers-within, within-numbers}

numbers_in_order : {X : Type 0} (i : ℕ) (xs : List X) → InOrder (λ m n. m < n) (numbers i xs)
numbers_in_order i [] = tt
numbers_in_order i (x ∷ xs) = (all_by_member (λ n. i < n) (numbers (suc i) xs) (λ n m. let k = numbers-within (suc i) n xs m in omega (arith, k.0)), numbers_in_order (suc i) xs)

module _ {R : Type 0} (inside : R → R → Bool) (whole : R) (xs : List R) (own : R) where
  abbrev at : ℕ → R
  at = region_at whole xs

  abbrev within : List ℕ
  within = nested inside whole xs own

  pub holes_rising : Rising (holes_of inside whole xs own)
  holes_rising i j m n =
      nth_in_order (λ k l. k < l) (holes_of inside whole xs own) i j m n
      (kept_in_order (λ k l. k < l) (topmost inside at within) within (kept_in_order (λ k l. k < l) (below inside at own) (numbers 0 xs) (numbers_in_order 0 xs)))

  nested-known : (n : ℕ) → n < length xs → below inside at own n ≡ true → Memᴰ n within
  nested-known n h t = kept_with (below inside at own) n (numbers 0 xs) (within-numbers 0 n xs (omega arith) (omega arith)) t

  nested-parts : (n : ℕ) → Memᴰ n within → (n < length xs) × (below inside at own n ≡ true)
  nested-parts n m =
      let s = kept_from (below inside at own) n (numbers 0 xs) m in
      let k = numbers-within 0 n xs s.0 in
      (omega (arith, k.1), s.1)

  pub holes-known : (hole : ℕ) → Memᴰ hole (holes_of inside whole xs own) ↔ IsHole inside whole xs own hole
  holes-known hole = (
    (λ m.
        let s = kept_from (topmost inside at within) hole within m in
        let n = nested-parts hole s.0 in
        (n.0, n.1, λ k h t. any_not (above inside at (at hole)) k within (not-true _ s.1) (nested-known k h t))),
    (λ h. kept_with (topmost inside at within) hole within (nested-known hole h.0 h.1) (ap not (none_passes (above inside at (at hole)) within (λ k m. let n = nested-parts k m in h.2 k n.0 n.1)))),
  )
