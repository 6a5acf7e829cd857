-- The rows found are those of the listed regions whose cells hold a point and are treated unlike, in order.
use Rattle.std.proofs.Common.{◌≡◌, ℕ, ◌<◌, Bool, true, false, List, [], ◌∷◌, length, Some, None, fold, Option, sym, refl, ap, ◌∙◌, subst, inl, inr, arith}
use mathlib.Core.List.Memᴰ
use mathlib.Core.List.{Memᴰ}
use Rattle.std.specs.List.{AllByRecursion}
use Rattle.std.proofs.lemmas.Bool.{cond-true, cond-false}
use Rattle.family.specs.declared.clauses.Clause.{Clause}
use Rattle.family.specs.declared.edges.Edge.{Edge}
use Rattle.compare.specs.declared.rows.Row.{Row}
use Rattle.compare.specs.Cells.{region_at, numbers, holes_of, occupied}
use Rattle.compare.specs.Reported.{Before}
use Rattle.compare.specs.Rows.{place_of, ranked_some, alike_at, row_for, row_at, rows_found}
use Rattle.compare.proofs.HoleTotals.{found_all, row_parts}
use Rattle.compare.proofs.InOrder.{InOrder}
use Rattle.compare.proofs.Members.{nothing, within-numbers}
use Rattle.compare.proofs.Placed.{folded_keeps}
use Rattle.compare.proofs.RowOrder.{rising_sorted, ranked-lists, ranked_keeps}

-- a row that is put stands to the end
module _ (row_of : ℕ → Option Row) (row : Row) where
  abbrev put_on : List Row → List ℕ → List Row
  put_on rows ns = fold (λ so_far n. ranked_some so_far (row_of n)) rows ns

  some_keeps : (rows : List Row) (o : Option Row) → Memᴰ row rows → Memᴰ row (ranked_some rows o)
  some_keeps rows None m = m
  some_keeps rows (Some x) m = ranked_keeps rows x row m

  some-lists : (rows : List Row) (o : Option Row) → o ≡ Some row → Memᴰ row (ranked_some rows o)
  some-lists rows None e = nothing e
  some-lists rows (Some x) e = subst (λ y. Memᴰ y (ranked_some rows (Some x))) (cc) (ranked-lists rows x)

  put-lists : (rows : List Row) (ns : List ℕ) (n : ℕ) → Memᴰ n ns → row_of n ≡ Some row → Memᴰ row (put_on rows ns)
  put-lists rows [] n m e = absurd (Memᴰ.not-nil m)
  put-lists rows (k ∷ ns) n m e =
      elim (Memᴰ.cases_cons m) [
        | inl same ↦ folded_keeps (λ so_far i. ranked_some so_far (row_of i)) (Memᴰ row) ns (λ so_far i _ h. some_keeps so_far (row_of i) h) (ranked_some rows (row_of k)) (some-lists rows (row_of k) (sym (ap row_of same) ∙ e))
        | inr later ↦ put-lists (ranked_some rows (row_of k)) ns n later e
      ]

module _ {R P A : Type 0} (whole : R) (first : P) (axes : ℕ) (holds : R → P → Bool) (inside : R → R → Bool) (shifted : P → ℕ → Edge → R → P) (alike : A → A → Bool) (xs : List R) (left : List (Clause R A)) (left-default : A) (right : List (Clause R A)) (right-default : A) where
  abbrev row_of : ℕ → Option Row
  row_of = row_at whole first axes holds inside shifted alike xs left left-default right right-default

  abbrev found : List Row
  found = rows_found whole first axes holds inside shifted alike xs left left-default right right-default

  abbrev alike_here : R → Bool
  alike_here = alike_at whole first axes holds inside shifted alike xs left left-default right right-default

  abbrev row_here : ℕ → R → Row
  row_here = row_for whole first axes holds inside shifted alike xs left left-default right right-default

  abbrev occupied_here : ℕ → Bool
  occupied_here n = occupied first axes holds shifted (region_at whole xs) (n ∷ holes_of inside whole xs (region_at whole xs n))

  -- a row of a listed region whose cell holds a point and is treated unlike, with the two places that decide the cell
  pub record Standing (row : Row) : Type 0 where
    pub region_listed : row.region < length xs
    pub unlike : alike_here (region_at whole xs row.region) ≡ false
    pub held : occupied_here row.region ≡ true
    pub left_place : row.left ≡ place_of inside left (region_at whole xs row.region)
    pub right_place : row.right ≡ place_of inside right (region_at whole xs row.region)

  row_standing : (n : ℕ) (row : Row) → n < length xs → row_of n ≡ Some row → Standing row
  row_standing n row h e =
      let parts = row_parts whole first axes holds inside shifted alike xs left left-default right right-default n row e in
      subst Standing parts.2 (record { region_listed = h; unlike = parts.0; held = parts.1; left_place = refl; right_place = refl })

  pub found_standing : AllByRecursion Standing found
  found_standing = found_all whole first axes holds inside shifted alike xs left left-default right right-default Standing row_standing

  pub found-listed : (n : ℕ) → n < length xs → alike_here (region_at whole xs n) ≡ false → occupied_here n ≡ true → Memᴰ (row_here n (region_at whole xs n)) found
  found-listed n h t o =
      put-lists row_of (row_here n (region_at whole xs n)) [] (numbers 0 xs) n (within-numbers 0 n xs (omega arith) (omega arith)) (cond-false (alike_here (region_at whole xs n)) _ _ t ∙ cond-true (occupied_here n) _ _ o)

  pub found_in_order : InOrder Before found
  found_in_order = rising_sorted row_of (λ n row e. sym (ap (λ x. x.region) (row_parts whole first axes holds inside shifted alike xs left left-default right right-default n row e).2)) 0 xs [] tt tt
