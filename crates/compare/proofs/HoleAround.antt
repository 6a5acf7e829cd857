-- Around each listed region that is strictly inside a region there is one of the region's holes.
use Rattle.std.proofs.Common.{◌≡◌, ℕ, zero, suc, ◌<◌, ◌≤◌, Bool, true, false, cond, not, List, [], ◌∷◌, length, count_by, Option, sym, refl, ap, ◌∙◌, inl, inr, arith}
use mathlib.Core.List.Memᴰ
use mathlib.Core.List.{Memᴰ}
use Rattle.std.proofs.lemmas.List.Sums.{sum_by-cons}
use Rattle.std.proofs.lemmas.Bool.{and_parts, both_ways, cases_Bool}
use Rattle.family.specs.Families.{FamilyLaws}
use Rattle.std.specs.List.{list_any}
use Rattle.family.specs.declared.edges.Edge.{Edge}
use Rattle.compare.specs.Cells.{region_at, numbers, strictly, below, above, topmost, outermost, nested, holes_of}
use Rattle.compare.proofs.Insides.{inside_itself, inside_on, strictly_on, strictly-never}
use Rattle.compare.proofs.Members.{any_from, kept_from, kept_with, numbers-within, within-numbers}

-- one test passes wherever another does, and once more
module _ {X : Type 0} (p q : X → Bool) (wider : (x : X) → p x ≡ true → q x ≡ true) where
  abbrev one_if : Bool → ℕ
  one_if b = cond b 1 0

  weight : (b c : Bool) → (b ≡ true → c ≡ true) → one_if b ≤ one_if c
  weight true true h = omega arith
  weight true false h = absurd (both_ways false refl (h refl))
  weight false true h = omega arith
  weight false false h = omega arith

  count_wider : (xs : List X) → count_by p xs ≤ count_by q xs
  count_wider [] = omega arith
  count_wider (x ∷ xs) = omega (arith, sum_by-cons (λ y. cond (p y) 1 0) x xs, sum_by-cons (λ y. cond (q y) 1 0) x xs, weight (p x) (q x) (wider x), count_wider xs)

  count-more : (y : X) → p y ≡ false → q y ≡ true → (xs : List X) → Memᴰ y xs → count_by p xs < count_by q xs
  count-more y out passes [] m = absurd (Memᴰ.not-nil m)
  count-more y out passes (x ∷ xs) m =
      let sum-p = sum_by-cons (λ z. cond (p z) 1 0) x xs in
      let sum-q = sum_by-cons (λ z. cond (q z) 1 0) x xs in
      elim (Memᴰ.cases_cons m) [
        | inl e ↦
            (let none : one_if (p x) ≡ 0 = ap one_if (ap p (sym e) ∙ out) in
            let one : one_if (q x) ≡ 1 = ap one_if (ap q (sym e) ∙ passes) in
            omega (arith, sum-p, sum-q, none, one, count_wider xs))
        | inr n ↦ omega (arith, sum-p, sum-q, weight (p x) (q x) (wider x), count-more y out passes xs n)
      ]

module _ {R P : Type 0} {whole : R} {first : P} {axes : ℕ} {holds : R → P → Bool} {inside : R → R → Bool} {meet : R → R → Option R} {shifted : P → ℕ → Edge → R → P} (laws : FamilyLaws whole first axes holds inside meet shifted) (xs : List R) where
  abbrev at : ℕ → R
  at = region_at whole xs

  -- upwards from a numbered region among some, to one of the outermost, since fewer and fewer are above
  outer_around : (ns : List ℕ) (turns n : ℕ) → Memᴰ n ns → count_by (above inside at (at n)) ns < turns → (h : ℕ) × Memᴰ h (outermost inside at ns) × (inside (at n) (at h) ≡ true)
  outer_around ns zero n m few = absurd (omega arith)
  outer_around ns (suc turns) n m few =
      elim (cases_Bool (list_any (above inside at (at n)) ns)) [
        | inl t ↦
            (let k = any_from (above inside at (at n)) ns t in
            let less = count-more (above inside at (at k.0)) (above inside at (at n)) (λ x h. strictly_on laws (at n) (at k.0) (at x) k.2 h) k.0 (strictly-never laws (at k.0)) k.2 ns k.1 in
            let s = outer_around ns turns k.0 k.1 (omega arith) in
            (s.0, s.1, inside_on laws (at n) (at k.0) (at s.0) (and_parts (inside (at n) (at k.0)) (not (inside (at k.0) (at n))) k.2).0 s.2))
        | inr f ↦ (n, kept_with (topmost inside at ns) n ns m (ap not f), inside_itself laws (at n))
      ]

  pub hole_around : (r : R) (n : ℕ) → n < length xs → strictly inside (at n) r ≡ true → (h : ℕ) × Memᴰ h (holes_of inside whole xs r) × (inside (at n) (at h) ≡ true)
  hole_around r n within t =
      let ns = nested inside whole xs r in
      outer_around ns (suc (count_by (above inside at (at n)) ns)) n (kept_with (below inside at r) n (numbers 0 xs) (within-numbers 0 n xs (omega arith) (omega arith)) t) (omega arith)

  -- a hole is a listed region, strictly inside
  pub hole_within : (r : R) (h : ℕ) → Memᴰ h (holes_of inside whole xs r) → (h < length xs) × (strictly inside (at h) r ≡ true)
  hole_within r h m =
      let ns = nested inside whole xs r in
      let s = kept_from (below inside at r) h (numbers 0 xs) (kept_from (topmost inside at ns) h ns m).0 in
      let k = numbers-within 0 h xs s.0 in
      (omega (arith, k.1), s.1)
