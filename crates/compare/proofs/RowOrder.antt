-- The rows in order: each is put in its place, by left place, right place and region number.
use Rattle.std.proofs.Common.{◌≡◌, ℕ, suc, ◌<◌, ◌≤◌, Bool, true, false, cond, ◌&&◌, eqb, ltb, ◌⊎◌, List, [], ◌∷◌, take, drop, Some, None, fold, Option, sym, refl, ◌∙◌, subst, inl, inr, arith, take-append-drop}
use mathlib.Core.List.Memᴰ
use mathlib.Core.List.{Memᴰ}
use Rattle.std.specs.List.{insert, AllByRecursion}
use Rattle.std.proofs.ByRecursion.{All-weaker}
use Rattle.std.proofs.lemmas.Bool.{ltb-true, ltb-false, eqb-true, eqb-false, or_cases, or_parts, and_parts, and_cases, cases_lt}
use Rattle.family.specs.Lists.{first_where}
use Rattle.compare.specs.declared.rows.Row.{Row}
use Rattle.compare.specs.Cells.{numbers}
use Rattle.compare.specs.Reported.{Before}
use Rattle.compare.specs.Rows.{precedes, ranked, ranked_some}
use Rattle.compare.proofs.HoleTotals.{ranked-all, some-ranked}
use Rattle.compare.proofs.InOrder.{InOrder}

-- by right place, then region number
abbrev Later : Row → Row → Type 0
Later a b = (a.right < b.right) ⊎ ((a.right ≡ b.right) × (a.region < b.region))

later_on : (a b c : Row) → Later a b → Later b c → Later a c
later_on a b c (inl h) (inl k) = inl (omega arith)
later_on a b c (inl h) (inr k) = inl (omega (arith, k.0))
later_on a b c (inr h) (inl k) = inl (omega (arith, h.0))
later_on a b c (inr h) (inr k) = inr (h.0 ∙ k.0, omega (arith, h.1, k.1))

pub before_on : (a b c : Row) → Before a b → Before b c → Before a c
before_on a b c (inl h) (inl k) = inl (omega arith)
before_on a b c (inl h) (inr k) = inl (omega (arith, k.0))
before_on a b c (inr h) (inl k) = inl (omega (arith, h.0))
before_on a b c (inr h) (inr k) = inr (h.0 ∙ k.0, later_on a b c h.1 k.1)

-- rows with the same places and region do not stand in order
pub before-apart : (a b : Row) → Before a b → a.left ≡ b.left → a.right ≡ b.right → a.region ≡ b.region → ⊥
before-apart a b (inl h) l r n = omega arith
before-apart a b (inr (h, inl k)) l r n = omega arith
before-apart a b (inr (h, inr k)) l r n = omega (arith, k.1)

precedes-before : (a b : Row) → precedes a b ≡ true → Before a b
precedes-before a b t =
    elim (or_cases (ltb a.left b.left) (eqb a.left b.left && ltb a.right b.right) t) [
      | inl h ↦ inl (ltb-true a.left b.left h)
      | inr h ↦ (let both = and_parts (eqb a.left b.left) (ltb a.right b.right) h in inr (eqb-true a.left b.left both.0, inl (ltb-true a.right b.right both.1)))
    ]

-- a row that another does not precede stands before it if its region's number is lower
behind_before : (a b : Row) → precedes b a ≡ false → a.region < b.region → Before a b
behind_before a b f low =
    let both = or_parts (ltb b.left a.left) (eqb b.left a.left && ltb b.right a.right) f in
    let left : a.left ≤ b.left = ltb-false b.left a.left both.0 in
    elim (cases_lt a.left b.left) [
      | inl h ↦ inl h
      | inr h ↦
          (let same : a.left ≡ b.left = omega arith in
          let right : a.right ≤ b.right = elim (and_cases (eqb b.left a.left) (ltb b.right a.right) both.1) [ inl out ↦ absurd (eqb-false b.left a.left out (sym same)) | inr k ↦ ltb-false b.right a.right k ] in
          inr (same, elim (cases_lt a.right b.right) [ inl k ↦ inl k | inr k ↦ inr (omega arith, low) ]))
    ]

ranked_sorted : (rows : List Row) (row : Row) → InOrder Before rows → AllByRecursion (λ x. x.region < row.region) rows → InOrder Before (ranked rows row)
ranked_sorted [] row s low = (tt, tt)
ranked_sorted (x ∷ xs) row s low = by (precedes row x) refl (ranked_sorted xs row s.1 low.1)
  where
    by : (b : Bool) → precedes row x ≡ b → InOrder Before (ranked xs row) → InOrder Before (insert (x ∷ xs) (cond b 0 (suc (first_where (precedes row) xs))) row)
    by true e more =
        let here = precedes-before row x e in
        ((here, All-weaker (Before x) (Before row) (λ y h. before_on row x y here h) xs s.0), s)
    by false e more = (ranked-all (Before x) xs row s.0 (behind_before x row e low.0), more)

-- rows of rising numbers, each put in its place
module _ (row_of : ℕ → Option Row) (own : (n : ℕ) (row : Row) → row_of n ≡ Some row → row.region ≡ n) where
  some_sorted : (n : ℕ) (rows : List Row) (o : Option Row) → ((row : Row) → o ≡ Some row → row.region ≡ n) → InOrder Before rows → AllByRecursion (λ x. x.region < n) rows → InOrder Before (ranked_some rows o)
  some_sorted n rows None is s low = s
  some_sorted n rows (Some row) is s low = ranked_sorted rows row s (All-weaker (λ x. x.region < n) (λ x. x.region < row.region) (λ x h. omega (arith, is row refl)) rows low)

  pub rising_sorted : {X : Type 0} (i : ℕ) (xs : List X) (rows : List Row) → InOrder Before rows → AllByRecursion (λ x. x.region < i) rows → InOrder Before (fold (λ so_far n. ranked_some so_far (row_of n)) rows (numbers i xs))
  rising_sorted i [] rows s low = s
  rising_sorted i (x ∷ xs) rows s low =
      rising_sorted (suc i) xs (ranked_some rows (row_of i)) (some_sorted i rows (row_of i) (own i) s low)
      (some-ranked (λ y. y.region < suc i) rows (row_of i) (All-weaker (λ y. y.region < i) (λ y. y.region < suc i) (λ y h. omega arith) rows low) (λ row e. omega (arith, own i row e)))

-- a row that was put stands, and so do those before
module _ (rows : List Row) (row : Row) where
  pub ranked-lists : Memᴰ row (ranked rows row)
  ranked-lists = Memᴰ.append_right (take (first_where (precedes row) rows) rows) (Memᴰ.head refl)

  pub ranked_keeps : (x : Row) → Memᴰ x rows → Memᴰ x (ranked rows row)
  ranked_keeps x m =
      let n = first_where (precedes row) rows in
      elim (Memᴰ.append_cases (take n rows) (subst (Memᴰ x) (sym (take-append-drop n rows)) m)) [
        | inl a ↦ Memᴰ.append_left (row ∷ drop n rows) a
        | inr b ↦ Memᴰ.append_right (take n rows) (Memᴰ.tail b)
      ]
