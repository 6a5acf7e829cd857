-- Pairs of regions of two families, part by part: what they hold, when one is inside another, their meet and shifts.
use Rattle.std.specs.Prelude.{ℕ, ◌+◌, ◌-◌, min, Bool, cond, ◌&&◌, Some, None, Option, nat_le}
use Rattle.family.specs.declared.edges.Edge.{Edge}
use Rattle.supplied.specs.declared.pairs.Pair.{Pair}

abbrev pub pair : {A B : Type 0} → A → B → Pair A B
pair a b = record { first = a; second = b }

abbrev pub both_some : {A B : Type 0} → Option A → Option B → Option (Pair A B)
both_some (Some a) (Some b) = Some (pair a b)
both_some (Some a) None = None
both_some None (Some b) = None
both_some None None = None

-- the axes of both, where 5 means more than four
abbrev pub pair_axes : ℕ → ℕ → ℕ
pair_axes m n = min 5 (m + n)

module _ {R S P Q : Type 0} where
  abbrev pub pair_holds : (R → P → Bool) → (S → Q → Bool) → Pair R S → Pair P Q → Bool
  pair_holds f g r p = f r.first p.first && g r.second p.second

  -- the first m axes are the first part's, the next the second's; a point with more than four axes is left
  abbrev pub pair_shifted : (m n : ℕ) → (P → ℕ → Edge → R → P) → (Q → ℕ → Edge → S → Q) → Pair P Q → ℕ → Edge → Pair R S → Pair P Q
  pair_shifted m n f g p axis e r =
      cond (nat_le 5 (m + n)) p
      (cond (nat_le axis m) (pair (f p.first axis e r.first) p.second)
      (pair p.first (g p.second (axis - m) e r.second)))

module _ {R S : Type 0} where
  abbrev pub pair_inside : (R → R → Bool) → (S → S → Bool) → Pair R S → Pair R S → Bool
  pair_inside f g a b = f a.first b.first && g a.second b.second

  abbrev pub pair_meet : (R → R → Option R) → (S → S → Option S) → Pair R S → Pair R S → Option (Pair R S)
  pair_meet f g a b = both_some (f a.first b.first) (g a.second b.second)
