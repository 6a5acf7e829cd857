-- Rows written one after the other, each with the start of its holes.
use Rattle.std.proofs.Common.{◌≡◌, ℕ, suc, ◌+◌, ◌-◌, ◌^◌, ◌<◌, ◌≤◌, min, fold, List, [], ◌∷◌, ◌++◌, length, get_or, take, drop, set, sum_by, sym, refl, ap, ◌∙◌, append_assoc, add-zero, add_assoc, arith, length-take}
use Rattle.std.proofs.lemmas.List.{take_more, drop_more, get_or_at, set_at}
use Rattle.std.proofs.lemmas.List.Sums.{sum_by_more, sum_by-cons, sum_by-take-le}
use Rattle.compare.specs.declared.rows.Row.{Row}
use Rattle.compare.specs.Rows.{laid}

abbrev pub hole_count : Row → ℕ
hole_count row = row.number

-- the row of nothing but zeros
abbrev pub no_row : Row
no_row = record { left = 0; right = 0; region = 0; start = 0; number = 0 }

-- a row with the start of its holes
abbrev pub started : ℕ → Row → Row
started start row = record { left = row.left; right = row.right; region = row.region; start = start; number = row.number }

pub length-laid : (start : ℕ) (rows : List Row) → length (laid start rows) ≡ length rows
length-laid start [] = refl
length-laid start (row ∷ rows) = ap suc (length-laid (start + row.number) rows)

pub laid_push : (start : ℕ) (rows : List Row) (row : Row) → laid start (rows ++ (row ∷ [])) ≡ laid start rows ++ (started (start + sum_by hole_count rows) row ∷ [])
laid_push start [] row = ap (λ n. started n row ∷ []) (sym (add-zero start))
laid_push start (x ∷ rows) row =
    let sum = sum_by-cons hole_count x rows in
    ap (λ l. started start x ∷ l) (laid_push (start + x.number) rows row ∙ ap (λ n. laid (start + x.number) rows ++ (started n row ∷ [])) (add_assoc start x.number (sum_by hole_count rows) ∙ ap (λ n. start + n) (sym sum)))

zero_first : (n : ℕ) → n ≡ 0 + n
zero_first n = omega arith

-- rows laid out in place: the first i have their starts, and the others are as they were
module _ (rows items : List Row) (i start : ℕ) (d : Row) (some : i < length rows) (from : start ≡ sum_by hole_count (take i rows)) (so_far : items ≡ laid 0 (take i rows) ++ drop i rows) where
  long : length (laid 0 (take i rows)) ≡ i
  long = omega (arith, length-laid 0 (take i rows), length-take i rows)

  read : get_or items i d ≡ get_or rows i d
  read = ap (λ l. get_or l i d) (so_far ∙ ap (λ l. laid 0 (take i rows) ++ l) (drop_more rows i d some)) ∙ get_or_at (laid 0 (take i rows)) (get_or rows i d) (drop (i + 1) rows) d i long

  pub start-more : start + (get_or items i d).number ≡ sum_by hole_count (take (i + 1) rows)
  start-more = ap (λ n. n + (get_or items i d).number) from ∙ ap (λ x. sum_by hole_count (take i rows) + x.number) read ∙ sym (sum_by_more hole_count rows i d some)

  pub start_fits : start + (get_or items i d).number ≤ sum_by hole_count rows
  start_fits = omega (arith, start-more, sum_by-take-le hole_count rows (i + 1))

  pub laid_more : set items i (started start (get_or items i d)) ≡ laid 0 (take (i + 1) rows) ++ drop (i + 1) rows
  laid_more =
      let front = laid 0 (take i rows) in
      let row = get_or items i d in
      let next : take (i + 1) rows ≡ take i rows ++ (row ∷ []) = take_more rows i d some ∙ ap (λ x. take i rows ++ (x ∷ [])) (sym read) in
      ap (λ l. set l i (started start row)) (so_far ∙ ap (λ l. front ++ l) (drop_more rows i d some))
      ∙ set_at front (get_or rows i d) (drop (i + 1) rows) (started start row) i long
      ∙ sym (append_assoc front (started start row ∷ []) (drop (i + 1) rows))
      ∙ ap (λ l. l ++ drop (i + 1) rows) (ap (λ n. front ++ (started n row ∷ [])) (from ∙ zero_first (sum_by hole_count (take i rows))) ∙ sym (laid_push 0 (take i rows) row) ∙ ap (laid 0) (sym next))

-- the holes of rows counted one row after the other, up to a limit
capped_from : (limit start : ℕ) (rows : List Row) → fold (λ total row. min (total + row.number) limit) (min start limit) rows ≡ min (start + sum_by hole_count rows) limit
capped_from limit start [] = ap (λ n. min n limit) (sym (add-zero start))
capped_from limit start (row ∷ rows) =
    let one : min (min start limit + row.number) limit ≡ min (start + row.number) limit = omega arith in
    ap (λ n. fold (λ total x. min (total + x.number) limit) n rows) one ∙ capped_from limit (start + row.number) rows
    ∙ ap (λ n. min n limit) (add_assoc start row.number (sum_by hole_count rows) ∙ ap (λ n. start + n) (sym (sum_by-cons hole_count row rows)))

pub capped_total : (rows : List Row) → fold (λ total row. min (total + row.number) (2 ^ 64 - 1)) 0 rows ≡ min (sum_by hole_count rows) (2 ^ 64 - 1)
capped_total rows = capped_from (2 ^ 64 - 1) 0 rows ∙ ap (λ n. min n (2 ^ 64 - 1)) (sym (zero_first (sum_by hole_count rows)))
