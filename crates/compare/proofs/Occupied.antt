-- A cell is found occupied exactly when it holds a point.
use Rattle.std.proofs.Common.{◌≡◌, ℕ, zero, suc, ◌+◌, ◌≤◌, Bool, true, not, ◌&&◌, ◌||◌, List, [], ◌∷◌, map, length, Option, refl, ap, ◌∙◌, inl, inr, arith}
use mathlib.Core.List.Memᴰ
use mathlib.Core.List.{Memᴰ}
use Rattle.std.proofs.lemmas.Bool.{or_left, or_right, or_cases}
use Rattle.family.specs.Families.{FamilyLaws, Choice, still, toward, walked, AllFrom}
use Rattle.std.specs.List.{list_any}
use Rattle.family.specs.declared.edges.Edge.{Edge}
use Rattle.family.specs.declared.edges.Edge.TheVariants.{Near, Far}
use Rattle.compare.specs.Cells.{holding, in_cell, reaches, reaches_by, occupied}
use Rattle.compare.proofs.Members.{any_from, any_by}

module _ {R P : Type 0} (shifted : P → ℕ → Edge → R → P) (at : ℕ → R) (test : P → Bool) (ns : List ℕ) where
  -- what shifts reach passes the test
  reached_passes : (n axis : ℕ) (p : P) → reaches shifted at test ns n axis p ≡ true → (q : P) × (test q ≡ true)
  reached_passes zero axis p t = (p, t)
  reached_passes (suc n) axis p t =
      elim (or_cases (reaches shifted at test ns n (axis + 1) p) (list_any (reaches_by shifted at test ns n axis p) ns) t) [
        | inl here ↦ reached_passes n (axis + 1) p here
        | inr by ↦
            (let k = any_from (reaches_by shifted at test ns n axis p) ns by in
            elim (or_cases (reaches shifted at test ns n (axis + 1) (shifted p axis Near (at k.0))) (reaches shifted at test ns n (axis + 1) (shifted p axis Far (at k.0))) k.2) [
              | inl near ↦ reached_passes n (axis + 1) (shifted p axis Near (at k.0)) near
              | inr far ↦ reached_passes n (axis + 1) (shifted p axis Far (at k.0)) far
            ])
      ]

  edge_reached : (n axis : ℕ) (p : P) (e : Edge) (k : ℕ) → Memᴰ k ns → reaches shifted at test ns n (axis + 1) (shifted p axis e (at k)) ≡ true → reaches shifted at test ns (suc n) axis p ≡ true
  edge_reached n axis p Near k m t = or_right (reaches shifted at test ns n (axis + 1) p) _ (any_by (reaches_by shifted at test ns n axis p) k ns m (or_left _ _ t))
  edge_reached n axis p Far k m t = or_right (reaches shifted at test ns n (axis + 1) p) _ (any_by (reaches_by shifted at test ns n axis p) k ns m (or_right _ _ t))

  -- a point that choices lead to is reached
  walked-reached : (cs : List (Choice R)) → AllFrom (map at ns) cs → (n axis : ℕ) (p : P) → length cs ≡ n → test (walked shifted p axis cs) ≡ true → reaches shifted at test ns n axis p ≡ true
  walked-reached [] from zero axis p e t = t
  walked-reached [] from (suc n) axis p e t = absurd (omega arith)
  walked-reached (c ∷ cs) from zero axis p e t = absurd (omega arith)
  walked-reached (still ∷ cs) from (suc n) axis p e t = or_left (reaches shifted at test ns n (axis + 1) p) _ (walked-reached cs from.1 n (axis + 1) p (omega arith) t)
  walked-reached (toward edge r ∷ cs) from (suc n) axis p e t =
      let k = Memᴰ.of_map at ns from.0 in
      edge_reached n axis p edge k.0 k.1 (walked-reached cs from.1 n (axis + 1) (shifted p axis edge (at k.0)) (omega arith) (ap (λ x. test (walked shifted (shifted p axis edge x) (axis + 1) cs)) k.2 ∙ t))

-- points held by the same regions of a cell are both in it or both not
module _ {R P : Type 0} (holds : R → P → Bool) (at : ℕ → R) where
  any_same : (ns : List ℕ) (p q : P) → ((r : R) → Memᴰ r (map at ns) → holds r p ≡ holds r q) → list_any (holding holds at p) ns ≡ list_any (holding holds at q) ns
  any_same [] p q each = refl
  any_same (n ∷ ns) p q each = ap (λ b. b || list_any (holding holds at p) ns) (each (at n) (Memᴰ.head refl)) ∙ ap (λ b. holds (at n) q || b) (any_same ns p q (λ r m. each r (Memᴰ.tail m)))

  cell_same : (cell : List ℕ) (p q : P) → ((r : R) → Memᴰ r (map at cell) → holds r p ≡ holds r q) → in_cell holds at cell p ≡ in_cell holds at cell q
  cell_same [] p q each = refl
  cell_same (own ∷ holes) p q each =
      ap (λ b. b && not (list_any (holding holds at p) holes)) (each (at own) (Memᴰ.head refl)) ∙ ap (λ b. holds (at own) q && not b) (any_same holes p q (λ r m. each r (Memᴰ.tail m)))

module _ {R P : Type 0} {whole : R} {first : P} {axes : ℕ} {holds : R → P → Bool} {inside : R → R → Bool} {meet : R → R → Option R} {shifted : P → ℕ → Edge → R → P} (laws : FamilyLaws whole first axes holds inside meet shifted) (at : ℕ → R) (cell : List ℕ) where
  pub occupied_point : occupied first axes holds shifted at cell ≡ true → (q : P) × (in_cell holds at cell q ≡ true)
  occupied_point t = reached_passes shifted at (in_cell holds at cell) cell axes 1 first t

  pub point_occupied : axes ≤ 4 → (q : P) → in_cell holds at cell q ≡ true → occupied first axes holds shifted at cell ≡ true
  point_occupied few q t =
      let way = laws.reached few q (map at cell) in
      walked-reached shifted at (in_cell holds at cell) cell way.0 way.2 axes 1 first way.1 (cell_same holds at cell (walked shifted first 1 way.0) q way.3 ∙ t)
