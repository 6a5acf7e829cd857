-- Rows laid out by place: each row reads its region's holes from those of all rows.
use Rattle.std.proofs.Common.{◌≡◌, ℕ, zero, suc, ◌+◌, ◌≤◌, Bool, List, [], ◌∷◌, ◌++◌, length, take, drop, Some, fold, sum_by, sym, refl, ap, ◌∙◌, subst, append_assoc, arith, length-append}
use Rattle.std.specs.List.{AllByRecursion, slice_get}
use Rattle.std.proofs.lemmas.List.{take_at, drop_at}
use Rattle.std.proofs.lemmas.List.Sums.{sum_by-cons}
use Rattle.compare.specs.declared.rows.Row.{Row}
use Rattle.compare.specs.Cells.{region_at, holes_of}
use Rattle.compare.specs.Reported.{read_holes}
use Rattle.compare.specs.Rows.{laid, add_holes, holes_of_rows}
use Rattle.compare.proofs.Extended.{folded_extends, add_holes_extends}
use Rattle.compare.proofs.HoleTotals.{Counted}
use Rattle.compare.proofs.LaidOut.{hole_count, started}
use Rattle.compare.proofs.Members.{nothing}

-- a row laid out is one found, with a start
pub laid_from : (start : ℕ) (rows : List Row) (k : ℕ) (row : Row) → slice_get (laid start rows) k ≡ Some row → (old : Row) × (s : ℕ) × (slice_get rows k ≡ Some old) × (started s old ≡ row)
laid_from start [] k row e = nothing e
laid_from start (x ∷ xs) zero row e = (x, start, refl, (cc))
laid_from start (x ∷ xs) (suc k) row e = laid_from (start + x.number) xs k row e

pub laid_at : (start : ℕ) (rows : List Row) (k : ℕ) (old : Row) → slice_get rows k ≡ Some old → (s : ℕ) × (slice_get (laid start rows) k ≡ Some (started s old))
laid_at start [] k old e = nothing e
laid_at start (x ∷ xs) zero old e = let same : x ≡ old = cc in (start, ap (λ y. Some (started start y)) same)
laid_at start (x ∷ xs) (suc k) old e = laid_at (start + x.number) xs k old e

-- a row's holes end before those of all rows do
pub laid-within : (start : ℕ) (rows : List Row) (k : ℕ) (row : Row) → slice_get (laid start rows) k ≡ Some row → row.start + row.number ≤ start + sum_by hole_count rows
laid-within start [] k row e = nothing e
laid-within start (x ∷ xs) zero row e =
    let same : started start x ≡ row = cc in
    subst (λ y. y.start + y.number ≤ start + sum_by hole_count (x ∷ xs)) same (omega (arith, sum_by-cons hole_count x xs))
laid-within start (x ∷ xs) (suc k) row e = omega (arith, laid-within (start + x.number) xs k row e, sum_by-cons hole_count x xs)

-- rows laid out stay as they are when they are laid out again
pub laid_again : (start : ℕ) (rows : List Row) → laid start (laid start rows) ≡ laid start rows
laid_again start [] = refl
laid_again start (x ∷ xs) = ap (λ l. started start x ∷ l) (laid_again (start + x.number) xs)

module _ {R : Type 0} (inside : R → R → Bool) (whole : R) (xs : List R) where
  abbrev own : Row → List ℕ
  own row = holes_of inside whole xs (region_at whole xs row.region)

  first-holes : (so_far more : List ℕ) (row : Row) → Counted inside whole xs row → read_holes ((so_far ++ own row) ++ more) (started (length so_far) row) ≡ own row
  first-holes so_far more row counted =
      ap (λ l. take row.number (drop (length so_far) l)) (append_assoc so_far (own row) more) ∙ ap (take row.number) (drop_at so_far (own row ++ more) (length so_far) refl) ∙ take_at (own row) more row.number (sym counted)

  holes_after : (so_far : List ℕ) (rows : List Row) (start k : ℕ) (row : Row) → AllByRecursion (Counted inside whole xs) rows → start ≡ length so_far → slice_get (laid start rows) k ≡ Some row → read_holes (fold (add_holes inside whole xs) so_far rows) row ≡ own row
  holes_after so_far [] start k row all e is = nothing is
  holes_after so_far (x ∷ rows) start zero row all e is =
      let same : started start x ≡ row = cc in
      let rest = folded_extends (add_holes inside whole xs) (add_holes_extends inside whole xs) (so_far ++ own x) rows in
      subst (λ y. read_holes (fold (add_holes inside whole xs) (so_far ++ own x) rows) y ≡ own y) same
      (ap (λ l. read_holes l (started start x)) rest.1 ∙ ap (λ n. read_holes ((so_far ++ own x) ++ rest.0) (started n x)) e ∙ first-holes so_far rest.0 x all.0)
  holes_after so_far (x ∷ rows) start (suc k) row all e is =
      holes_after (so_far ++ own x) rows (start + x.number) k row all.1 (omega (arith, e, all.0, length-append so_far (own x))) is

  -- a row's holes, read from where it says, are its region's
  pub holes-read : (rows : List Row) (k : ℕ) (row : Row) → AllByRecursion (Counted inside whole xs) rows → slice_get (laid 0 rows) k ≡ Some row → read_holes (holes_of_rows inside whole xs rows) row ≡ own row
  holes-read rows k row all is = holes_after [] rows 0 k row all refl is
