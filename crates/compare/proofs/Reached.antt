-- Points of a cell, and those that shifts reach.
use Rattle.std.proofs.Common.{◌≡◌, ℕ, zero, suc, ◌+◌, ◌-◌, ◌<◌, Bool, true, false, ◌||◌, List, [], ◌∷◌, length, get_or, drop, sym, refl, ap, ◌∙◌, arith}
use Rattle.std.proofs.lemmas.List.{nil_from_length, drop_more}
use Rattle.std.proofs.lemmas.Bool.{or_left, or_right, or_from}
use Rattle.std.specs.List.{list_any}
use Rattle.family.specs.declared.edges.Edge.{Edge}
use Rattle.family.specs.declared.edges.Edge.TheVariants.{Near}
use Rattle.compare.specs.Cells.{in_cell, reaches, reaches_by, cornered, occupied}

module _ {R P : Type 0} (shifted : P → ℕ → Edge → R → P) (at : ℕ → R) (test : P → Bool) (ns : List ℕ) where
  -- no shift along the first axis, or one to an edge
  pub reaches_by_first : (n axis : ℕ) (p : P) → 0 < n → reaches shifted at test ns n axis p ≡ (reaches shifted at test ns (n - 1) (axis + 1) p || list_any (reaches_by shifted at test ns (n - 1) axis p) ns)
  reaches_by_first zero axis p h = absurd (omega arith)
  reaches_by_first (suc m) axis p h =
      let back : m ≡ suc m - 1 = omega arith in
      ap (λ k. reaches shifted at test ns k (axis + 1) p || list_any (reaches_by shifted at test ns k axis p) ns) back

  -- where no point is reached without a shift along the first axis
  pub reaches_first : (n axis : ℕ) (p : P) → 0 < n → reaches shifted at test ns (n - 1) (axis + 1) p ≡ false → list_any (reaches_by shifted at test ns (n - 1) axis p) ns ≡ reaches shifted at test ns n axis p
  reaches_first n axis p some still = sym (reaches_by_first n axis p some ∙ ap (λ b. b || list_any (reaches_by shifted at test ns (n - 1) axis p) ns) still)

-- the near corner of the cell's region is among the points that shifts reach
pub corner-reached : {R P : Type 0} (shifted : P → ℕ → Edge → R → P) (at : ℕ → R) (test : P → Bool) (own : ℕ) (rest : List ℕ) (n axis : ℕ) (p : P) → test (cornered shifted (at own) n axis p) ≡ true → reaches shifted at test (own ∷ rest) n axis p ≡ true
corner-reached shifted at test own rest zero axis p t = t
corner-reached shifted at test own rest (suc n) axis p t =
    let next = corner-reached shifted at test own rest n (axis + 1) (shifted p axis Near (at own)) t in
    or_right (reaches shifted at test (own ∷ rest) n (axis + 1) p) _ (or_left _ (list_any (reaches_by shifted at test (own ∷ rest) n axis p) rest) (or_left _ _ next))

-- no point lies in a cell without a region
pub none-reached : {R P : Type 0} (holds : R → P → Bool) (shifted : P → ℕ → Edge → R → P) (at : ℕ → R) (n axis : ℕ) (p : P) → reaches shifted at (in_cell holds at []) [] n axis p ≡ false
none-reached holds shifted at zero axis p = refl
none-reached holds shifted at (suc n) axis p = or_from _ _ (none-reached holds shifted at n (axis + 1) p) refl

module _ {R P : Type 0} (first : P) (axes : ℕ) (holds : R → P → Bool) (shifted : P → ℕ → Edge → R → P) (at : ℕ → R) (cell : List ℕ) where
  pub occupied_at_corner : 0 < length cell → in_cell holds at cell (cornered shifted (at (get_or cell 0 0)) axes 1 first) ≡ true → occupied first axes holds shifted at cell ≡ true
  occupied_at_corner h t =
      let own = get_or cell 0 0 in
      let split = drop_more cell 0 0 h in
      let corner = cornered shifted (at own) axes 1 first in
      ap (occupied first axes holds shifted at) split ∙ corner-reached shifted at (in_cell holds at (own ∷ drop 1 cell)) own (drop 1 cell) axes 1 first (sym (ap (λ l. in_cell holds at l corner) split) ∙ t)

  pub occupied_nowhere : length cell ≡ 0 → occupied first axes holds shifted at cell ≡ false
  occupied_nowhere e = ap (occupied first axes holds shifted at) (nil_from_length cell e) ∙ none-reached holds shifted at axes 1 first
