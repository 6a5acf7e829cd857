-- A near corner, by the axes one after the other.
use Rattle.std.proofs.Common.{◌≡◌, ℕ, zero, suc, ◌+◌, ◌-◌, ◌<◌, Bool, true, false, fold, refl, ap, ◌∙◌, arith}
use Rattle.std.specs.Iterator.{AlwaysYields}
use Rattle.std.specs.List.{range_with_len}
use Rattle.std.specs.Range.{range_inclusive_start, range_inclusive_exhausted, range_inclusive_end, range_inclusive_len, range_inclusive_left, range_inclusive_steps}
use Rattle.std.proofs.lemmas.Iterator.{YieldsList}
use Rattle.std.specs.declared.ops.RangeInclusive.{RangeInclusive}
use Rattle.family.specs.declared.edges.Edge.{Edge}
use Rattle.family.specs.declared.edges.Edge.TheVariants.{Near}
use Rattle.compare.specs.Cells.{cornered}

pub cornered_folded : {R P : Type 0} (shifted : P → ℕ → Edge → R → P) (r : R) (n axis : ℕ) (p : P) → fold (λ q a. shifted q a Near r) p (range_with_len axis n) ≡ cornered shifted r n axis p
cornered_folded shifted r zero axis p = refl
cornered_folded shifted r (suc n) axis p = cornered_folded shifted r n (axis + 1) (shifted p axis Near r)

abbrev gap : ℕ → ℕ → ℕ
gap x y = y - x

not-spent : (s : RangeInclusive ℕ) (b : Bool) → range_inclusive_exhausted s ≡ b → 0 < range_inclusive_left gap s → range_inclusive_exhausted s ≡ false
not-spent s true e h = absurd (omega (arith, h, ap (range_inclusive_len gap (range_inclusive_start s) (range_inclusive_end s)) e))
not-spent s false e h = e

-- what `a..=b` gives
counts_up : (n a : ℕ) (s : RangeInclusive ℕ) → range_inclusive_left gap s ≡ n → (0 < n → range_inclusive_start s ≡ a) → AlwaysYields (range_inclusive_steps gap (λ x y. y ≡ x + 1)) (λ x. x) s (range_with_len a n)
counts_up zero a s e f = λ x j p. omega (arith, p.1.1, e)
counts_up (suc n) a s e f = (
  (λ j p. omega (arith, p.1.0, e)),
  λ x j p. (p.1.0 ∙ f (omega arith), counts_up n (a + 1) j (omega (arith, p.1.1, e)) (λ h. p.1.2 (not-spent j _ refl (omega (arith, h, p.1.1, e))) ∙ ap (λ k. k + 1) (f (omega arith)))),
)

pub all_axes : (s : RangeInclusive ℕ) (axes : ℕ) → range_inclusive_start s ≡ 1 → range_inclusive_end s ≡ axes → range_inclusive_exhausted s ≡ false → YieldsList (range_inclusive_steps gap (λ x y. y ≡ x + 1)) (λ x. x) s (range_with_len 1 axes)
all_axes s axes a b e = record { runs = counts_up axes 1 s (omega (arith, a, b, ap (range_inclusive_len gap (range_inclusive_start s) (range_inclusive_end s)) e)) (λ h. a) }
