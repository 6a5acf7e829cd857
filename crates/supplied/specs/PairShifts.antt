-- Shifts of a pair: along each axis one part moves, and a walk moves first the one and then the other.
use Rattle.std.specs.Prelude.{◌≡◌, ℕ, ◌+◌, ◌-◌, ◌<◌, ◌≤◌, List, [], ◌∷◌, ◌++◌, map, length, refl}
use Rattle.std.proofs.Common.{ap, ◌∙◌, arith}
use Rattle.family.specs.declared.edges.Edge.{Edge}
use Rattle.family.specs.Families.{Choice, still, toward, moved, walked}
use Rattle.supplied.specs.Pairs.{pair, pair_shifted}
use Rattle.supplied.specs.Walks.{seen, walked-append}
use Rattle.supplied.specs.declared.pairs.Pair.{Pair}

abbrev pub first_of : {A B : Type 0} → Pair A B → A
first_of r = r.first

abbrev pub second_of : {A B : Type 0} → Pair A B → B
second_of r = r.second

module _ {R P S Q : Type 0} (m n : ℕ) (f : P → ℕ → Edge → R → P) (g : Q → ℕ → Edge → S → Q) where
  abbrev shifted : Pair P Q → ℕ → Edge → Pair R S → Pair P Q
  shifted = pair_shifted m n f g

  -- where each axis is one of the parts' axes
  module _ (along_first : (p : Pair P Q) (axis : ℕ) (e : Edge) (r : Pair R S) → axis ≤ m → shifted p axis e r ≡ pair (f p.first axis e r.first) p.second) (along_second : (p : Pair P Q) (axis : ℕ) (e : Edge) (r : Pair R S) → m < axis → shifted p axis e r ≡ pair p.first (g p.second (axis - m) e r.second)) where
    pub moved-first : (p : Pair P Q) (axis : ℕ) (c : Choice (Pair R S)) → axis ≤ m → moved shifted p axis c ≡ pair (moved f p.first axis (seen first_of c)) p.second
    moved-first p axis still le = refl
    moved-first p axis (toward e r) le = along_first p axis e r le

    pub moved-second : (p : Pair P Q) (k : ℕ) (c : Choice (Pair R S)) → 0 < k → moved shifted p (m + k) c ≡ pair p.first (moved g p.second k (seen second_of c))
    moved-second p k still pos = refl
    moved-second p k (toward e r) pos =
        let back : m + k - m ≡ k = omega arith in
        along_second p (m + k) e r (omega arith) ∙ ap (λ (a : ℕ). pair p.first (g p.second a e r.second)) back

    pub walked-first : (p : Pair P Q) (axis : ℕ) (cs : List (Choice (Pair R S))) → axis + length cs ≤ m + 1 → walked shifted p axis cs ≡ pair (walked f p.first axis (map (seen first_of) cs)) p.second
    walked-first p axis [] le = refl
    walked-first p axis (c ∷ cs) le =
        walked-first (moved shifted p axis c) (axis + 1) cs (omega arith)
        ∙ ap (λ (q : Pair P Q). pair (walked f q.first (axis + 1) (map (seen first_of) cs)) q.second) (moved-first p axis c (omega arith))

    pub walked-second : (p : Pair P Q) (k : ℕ) (cs : List (Choice (Pair R S))) → 0 < k → walked shifted p (m + k) cs ≡ pair p.first (walked g p.second k (map (seen second_of) cs))
    walked-second p k [] pos = refl
    walked-second p k (c ∷ cs) pos =
        let next : m + k + 1 ≡ m + (k + 1) = omega arith in
        ap (λ (a : ℕ). walked shifted (moved shifted p (m + k) c) a cs) next
        ∙ walked-second (moved shifted p (m + k) c) (k + 1) cs (omega arith)
        ∙ ap (λ (q : Pair P Q). pair q.first (walked g q.second (k + 1) (map (seen second_of) cs))) (moved-second p k c pos)

    -- choices for the first part's axes, then for the second's
    pub walked_both : (p : Pair P Q) (cs ds : List (Choice (Pair R S))) → length cs ≡ m → walked shifted p 1 (cs ++ ds) ≡ pair (walked f p.first 1 (map (seen first_of) cs)) (walked g p.second 1 (map (seen second_of) ds))
    walked_both p cs ds len =
        let next : 1 + length cs ≡ m + 1 = omega arith in
        walked-append shifted p 1 cs ds
        ∙ ap (λ (a : ℕ). walked shifted (walked shifted p 1 cs) a ds) next
        ∙ walked-second (walked shifted p 1 cs) 1 ds (omega arith)
        ∙ ap (λ (q : Pair P Q). pair q.first (walked g q.second 1 (map (seen second_of) ds))) (walked-first p 1 cs (omega arith))
