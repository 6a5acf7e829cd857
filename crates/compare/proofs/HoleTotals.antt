-- How many holes the rows have together: as many as their holes laid one row after the other.
use Rattle.std.proofs.Common.{◌≡◌, ℕ, suc, ◌+◌, ◌<◌, ◌≤◌, Bool, true, false, cond, List, [], ◌∷◌, ◌++◌, length, take, drop, Some, None, fold, sum_by, Option, refl, ap, subst, arith, length-append}
use Rattle.std.specs.List.{AllByRecursion}
use Rattle.std.proofs.ByRecursion.{All-take, All-drop, All-append, All-weaker}
use Rattle.std.proofs.lemmas.List.Sums.{sum_by-cons, length-filter, count_by-le-length}
use Rattle.family.specs.Lists.{first_where}
use Rattle.family.specs.declared.clauses.Clause.{Clause}
use Rattle.family.specs.declared.edges.Edge.{Edge}
use Rattle.compare.specs.declared.rows.Row.{Row}
use Rattle.compare.specs.Cells.{region_at, numbers, holes_of, nested, topmost, below, occupied}
use Rattle.compare.specs.Rows.{precedes, ranked, ranked_some, laid, alike_at, row_for, row_at, rows_found, add_holes, holes_of_rows}
use Rattle.compare.proofs.LaidOut.{hole_count}
use Rattle.compare.proofs.Members.{numbers-within}
use Rattle.compare.proofs.Placed.{folded_keeps}

pub length-numbers : {X : Type 0} (i : ℕ) (xs : List X) → length (numbers i xs) ≡ length xs
length-numbers i [] = refl
length-numbers i (x ∷ xs) = ap suc (length-numbers (suc i) xs)

-- what holds of each row where it is put
pub ranked-all : (P : Row → Type 0) (rows : List Row) (row : Row) → AllByRecursion P rows → P row → AllByRecursion P (ranked rows row)
ranked-all P rows row all one =
    let place = first_where (precedes row) rows in
    All-append P (take place rows) (row ∷ drop place rows) (All-take P place rows all) (one, All-drop P place rows all)

-- there is one way to a value past two tests
one_way : {X : Type 0} (b c : Bool) (x y : X) → cond b None (cond c (Some x) None) ≡ Some y → (b ≡ false) × (c ≡ true) × (x ≡ y)
one_way false true x y e = (refl, refl, (cc))
one_way false false x y e = let z : ◌≡◌ {A = ℕ} 0 1 = cc in absurd (omega arith)
one_way true c x y e = let z : ◌≡◌ {A = ℕ} 0 1 = cc in absurd (omega arith)

pub some-ranked : (P : Row → Type 0) (rows : List Row) (o : Option Row) → AllByRecursion P rows → ((row : Row) → o ≡ Some row → P row) → AllByRecursion P (ranked_some rows o)
some-ranked P rows None all one = all
some-ranked P rows (Some row) all one = ranked-all P rows row all (one row refl)

module _ {R : Type 0} (inside : R → R → Bool) (whole : R) (xs : List R) where
  -- a region has no more holes than there are listed regions
  pub holes-within : (r : R) → length (holes_of inside whole xs r) ≤ length xs
  holes-within r =
      let near = nested inside whole xs r in
      let top = topmost inside (region_at whole xs) near in
      let under = below inside (region_at whole xs) r in
      omega (arith, length-filter top near, count_by-le-length top near, length-filter under (numbers 0 xs), count_by-le-length under (numbers 0 xs), length-numbers 0 xs)

  -- a row's number is the number of its region's holes
  abbrev pub Counted : Row → Type 0
  Counted row = row.number ≡ length (holes_of inside whole xs (region_at whole xs row.region))

  pub counted-within : (row : Row) → Counted row → row.number ≤ length xs
  counted-within row e = omega (arith, e, holes-within (region_at whole xs row.region))

  holes_after : (so_far : List ℕ) (rows : List Row) → AllByRecursion Counted rows → length (fold (add_holes inside whole xs) so_far rows) ≡ length so_far + sum_by hole_count rows
  holes_after so_far [] all = omega arith
  holes_after so_far (row ∷ rows) all =
      let own = holes_of inside whole xs (region_at whole xs row.region) in
      omega (arith, holes_after (so_far ++ own) rows all.1, length-append so_far own, all.0, sum_by-cons hole_count row rows)

  pub holes_total : (rows : List Row) → AllByRecursion Counted rows → sum_by hole_count rows ≡ length (holes_of_rows inside whole xs rows)
  holes_total rows all = omega (arith, holes_after [] rows all)

  laid_after : (so_far : List ℕ) (start : ℕ) (rows : List Row) → fold (add_holes inside whole xs) so_far (laid start rows) ≡ fold (add_holes inside whole xs) so_far rows
  laid_after so_far start [] = refl
  laid_after so_far start (row ∷ rows) = laid_after (add_holes inside whole xs so_far row) (start + row.number) rows

  -- where the holes start changes nothing in what they are
  pub holes-laid : (start : ℕ) (rows : List Row) → holes_of_rows inside whole xs (laid start rows) ≡ holes_of_rows inside whole xs rows
  holes-laid start rows = laid_after [] start rows

module _ {R P A : Type 0} (whole : R) (first : P) (axes : ℕ) (holds : R → P → Bool) (inside : R → R → Bool) (shifted : P → ℕ → Edge → R → P) (alike : A → A → Bool) (xs : List R) (left : List (Clause R A)) (left-default : A) (right : List (Clause R A)) (right-default : A) where
  abbrev row_of : ℕ → Option Row
  row_of = row_at whole first axes holds inside shifted alike xs left left-default right right-default

  abbrev alike_here : R → Bool
  alike_here = alike_at whole first axes holds inside shifted alike xs left left-default right right-default

  abbrev row_here : ℕ → R → Row
  row_here = row_for whole first axes holds inside shifted alike xs left left-default right right-default

  abbrev occupied_here : ℕ → Bool
  occupied_here n = occupied first axes holds shifted (region_at whole xs) (n ∷ holes_of inside whole xs (region_at whole xs n))

  abbrev found : List Row
  found = rows_found whole first axes holds inside shifted alike xs left left-default right right-default

  -- what holds of the row of each listed region holds of all rows
  pub found_all : (Q : Row → Type 0) → ((n : ℕ) (row : Row) → n < length xs → row_of n ≡ Some row → Q row) → AllByRecursion Q found
  found_all Q each = folded_keeps (λ so_far n. ranked_some so_far (row_of n)) (AllByRecursion Q) (numbers 0 xs) (λ rows n m all. some-ranked Q rows (row_of n) all (λ row e. let k = numbers-within 0 n xs m in each n row (omega (arith, k.1)) e)) [] tt

  -- a listed region's row stands when its cell is treated unlike and holds a point
  pub row_parts : (n : ℕ) (row : Row) → row_of n ≡ Some row → (alike_here (region_at whole xs n) ≡ false) × (occupied_here n ≡ true) × (row_here n (region_at whole xs n) ≡ row)
  row_parts n row e = one_way (alike_here (region_at whole xs n)) (occupied_here n) (row_here n (region_at whole xs n)) row e

  row_counted : (n : ℕ) (row : Row) → n < length xs → row_of n ≡ Some row → Counted inside whole xs row
  row_counted n row h e = subst (Counted inside whole xs) (row_parts n row e).2 refl

  pub found-counted : AllByRecursion (Counted inside whole xs) found
  found-counted = found_all (Counted inside whole xs) row_counted

  pub found_within : AllByRecursion (λ row. row.number ≤ length xs) found
  found_within = All-weaker (Counted inside whole xs) (λ row. row.number ≤ length xs) (counted-within inside whole xs) found found-counted

  -- the rows' holes counted together
  pub found_total : sum_by hole_count found ≡ length (holes_of_rows inside whole xs found)
  found_total = holes_total inside whole xs found found-counted
