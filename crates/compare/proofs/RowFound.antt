-- The row of a listed region, by its region and the two decisions on it.
use Rattle.std.proofs.Common.{◌≡◌, ℕ, Bool, true, false, cond, List, ◌∷◌, length, Some, None, Option, sym, ap, ◌∙◌}
use Rattle.std.proofs.lemmas.Bool.{cond-true, cond-false}
use Rattle.family.specs.declared.edges.Edge.{Edge}
use Rattle.filter.specs.Ledger.{decision}
use Rattle.filter.specs.Views.{View}
use Rattle.compare.specs.declared.rows.Row.{Row}
use Rattle.compare.specs.Cells.{region_at, holes_of, occupied}
use Rattle.compare.specs.Rows.{alike_at, row_for, row_at}

module _ {R P A : Type 0} (whole : R) (first : P) (axes : ℕ) (holds : R → P → Bool) (inside : R → R → Bool) (shifted : P → ℕ → Edge → R → P) (alike : A → A → Bool) (xs : List R) (left right : View R A) (n : ℕ) where
  abbrev its_row : Option Row
  its_row = row_at whole first axes holds inside shifted alike xs left.clauses left.default right.clauses right.default n

  abbrev alike_here : R → Bool
  alike_here = alike_at whole first axes holds inside shifted alike xs left.clauses left.default right.clauses right.default

  abbrev row_here : R → Row
  row_here = row_for whole first axes holds inside shifted alike xs left.clauses left.default right.clauses right.default n

  abbrev occupied_here : R → Bool
  occupied_here q = occupied first axes holds shifted (region_at whole xs) (n ∷ holes_of inside whole xs q)

  -- what the row is, by the region
  by_region : R → Option Row
  by_region q = cond (alike_here q) None (cond (occupied_here q) (Some (row_here q)) None)

  module _ (r : R) (is : r ≡ region_at whole xs n) (l q : ℕ × A) (l-is : l ≡ decision (inside r) left) (q-is : q ≡ decision (inside r) right) where
    asked : alike l.1 q.1 ≡ alike_here r
    asked = ap (λ x. alike x.1 q.1) l-is ∙ ap (λ x. alike (decision (inside r) left).1 x.1) q-is

    pub no_row_alike : alike l.1 q.1 ≡ true → None ≡ its_row
    unfolding by_region
    no_row_alike t = sym (cond-true (alike_here r) _ _ (sym asked ∙ t)) ∙ ap by_region is

    pub no_row_empty : alike l.1 q.1 ≡ false → occupied_here r ≡ false → None ≡ its_row
    unfolding by_region
    no_row_empty t o = sym (cond-false (alike_here r) _ _ (sym asked ∙ t) ∙ cond-false (occupied_here r) _ _ o) ∙ ap by_region is

    pub row_stands : alike l.1 q.1 ≡ false → occupied_here r ≡ true → (k : ℕ) → k ≡ length (holes_of inside whole xs r) → Some (record { left = l.0; right = q.0; region = n; start = 0; number = k }) ≡ its_row
    unfolding by_region
    row_stands t o k k-is =
        ap (λ x. Some (record { left = x.0; right = q.0; region = n; start = 0; number = k })) l-is
        ∙ ap (λ x. Some (record { left = (decision (inside r) left).0; right = x.0; region = n; start = 0; number = k })) q-is
        ∙ ap (λ x. Some (record { left = (decision (inside r) left).0; right = (decision (inside r) right).0; region = n; start = 0; number = x })) k-is
        ∙ sym (cond-false (alike_here r) _ _ (sym asked ∙ t) ∙ cond-true (occupied_here r) _ _ o) ∙ ap by_region is
