-- Shifts and walks of a pair by its parts' axes.
use Rattle.std.specs.Prelude.{◌≡◌, ℕ, ◌+◌, ◌-◌, ◌<◌, ◌≤◌, Bool, ◌&&◌, ◌⊎◌, List, ◌++◌, map, length, Option, refl}
use Rattle.std.proofs.Common.{ap, ap₂, ◌∙◌, arith}
use mathlib.Core.List.{Memᴰ}
use Rattle.std.proofs.lemmas.Bool.{le-leb, lt-leb}
use Rattle.family.specs.declared.edges.Edge.{Edge}
use Rattle.family.specs.Families.{FamilyLaws, Choice, moved, walked, AllFrom}
use Rattle.supplied.specs.Pairs.{pair, pair_axes, pair_holds, pair_shifted}
use Rattle.supplied.specs.PairShifts as shifts
use Rattle.supplied.specs.PairShifts.{first_of, second_of}
use Rattle.supplied.specs.PairLaws.{pair_laws}
use Rattle.supplied.specs.Walks.{seen}
use Rattle.supplied.specs.declared.pairs.Pair.{Pair}

module _ {R P S Q : Type 0} (m n : ℕ) (f : P → ℕ → Edge → R → P) (g : Q → ℕ → Edge → S → Q) where
  abbrev shifted : Pair P Q → ℕ → Edge → Pair R S → Pair P Q
  shifted = pair_shifted m n f g

  pub many_axes : (p : Pair P Q) (axis : ℕ) (e : Edge) (r : Pair R S) → 5 ≤ m + n → shifted p axis e r ≡ p
  many_axes p axis e r many = rw (le-leb 5 (m + n) many) refl

  module _ (few : m + n ≤ 4) where
    pub along_first : (p : Pair P Q) (axis : ℕ) (e : Edge) (r : Pair R S) → axis ≤ m → shifted p axis e r ≡ pair (f p.first axis e r.first) p.second
    along_first p axis e r le = rw (lt-leb 5 (m + n) (omega arith), le-leb axis m le) refl

    pub along_second : (p : Pair P Q) (axis : ℕ) (e : Edge) (r : Pair R S) → m < axis → shifted p axis e r ≡ pair p.first (g p.second (axis - m) e r.second)
    along_second p axis e r lt = rw (lt-leb 5 (m + n) (omega arith), lt-leb axis m lt) refl

    pub moved-first : (p : Pair P Q) (axis : ℕ) (c : Choice (Pair R S)) → axis ≤ m → moved shifted p axis c ≡ pair (moved f p.first axis (seen first_of c)) p.second
    moved-first = shifts.moved-first m n f g along_first along_second

    pub moved-second : (p : Pair P Q) (k : ℕ) (c : Choice (Pair R S)) → 0 < k → moved shifted p (m + k) c ≡ pair p.first (moved g p.second k (seen second_of c))
    moved-second = shifts.moved-second m n f g along_first along_second

    pub walked-first : (p : Pair P Q) (axis : ℕ) (cs : List (Choice (Pair R S))) → axis + length cs ≤ m + 1 → walked shifted p axis cs ≡ pair (walked f p.first axis (map (seen first_of) cs)) p.second
    walked-first = shifts.walked-first m n f g along_first along_second

    pub walked-second : (p : Pair P Q) (k : ℕ) (cs : List (Choice (Pair R S))) → 0 < k → walked shifted p (m + k) cs ≡ pair p.first (walked g p.second k (map (seen second_of) cs))
    walked-second = shifts.walked-second m n f g along_first along_second

    -- choices for the first part's axes, then for the second's
    pub walked_both : (p : Pair P Q) (cs ds : List (Choice (Pair R S))) → length cs ≡ m → walked shifted p 1 (cs ++ ds) ≡ pair (walked f p.first 1 (map (seen first_of) cs)) (walked g p.second 1 (map (seen second_of) ds))
    walked_both = shifts.walked_both m n f g along_first along_second

module _ {R P S Q : Type 0} {whole_f : R} {first_f : P} {m : ℕ} {holds_f : R → P → Bool} {inside_f : R → R → Bool} {meet_f : R → R → Option R} {shifted_f : P → ℕ → Edge → R → P} {whole_g : S} {first_g : Q} {n : ℕ} {holds_g : S → Q → Bool} {inside_g : S → S → Bool} {meet_g : S → S → Option S} {shifted_g : Q → ℕ → Edge → S → Q} (f : FamilyLaws whole_f first_f m holds_f inside_f meet_f shifted_f) (g : FamilyLaws whole_g first_g n holds_g inside_g meet_g shifted_g) where
  abbrev holds : Pair R S → Pair P Q → Bool
  holds = pair_holds holds_f holds_g

  abbrev both_shifted : Pair P Q → ℕ → Edge → Pair R S → Pair P Q
  both_shifted = pair_shifted m n shifted_f shifted_g

  pub other_axis : (p : Pair P Q) (axis : ℕ) (e : Edge) (r : Pair R S) → (axis ≡ 0) ⊎ ((pair_axes m n < axis) ⊎ (pair_axes m n ≡ 5)) → both_shifted p axis e r ≡ p
  other_axis = (pair_laws f g).other_axis

  -- choices for one part and for the other lead to both parts' points
  pub both_reached : (p : Pair P Q) (r : Pair R S) (xs ys : List (Choice (Pair R S))) → m + n ≤ 4 → length xs ≡ m → holds_f r.first (walked shifted_f first_f 1 (map (seen first_of) xs)) ≡ holds_f r.first p.first → holds_g r.second (walked shifted_g first_g 1 (map (seen second_of) ys)) ≡ holds_g r.second p.second → holds r (walked both_shifted (pair first_f first_g) 1 (xs ++ ys)) ≡ holds r p
  both_reached p r xs ys few len h k =
      ap (holds r) (walked_both m n shifted_f shifted_g few (pair first_f first_g) xs ys len) ∙ ap₂ ◌&&◌ h k

  pub reached : pair_axes m n ≤ 4 → (p : Pair P Q) (rs : List (Pair R S)) → (cs : List (Choice (Pair R S))) × (length cs ≡ pair_axes m n) × AllFrom rs cs × ((r : Pair R S) → Memᴰ r rs → holds r (walked both_shifted (pair first_f first_g) 1 cs) ≡ holds r p)
  reached = (pair_laws f g).reached
