-- The pairs of regions of two families are a family.
use Rattle.std.specs.Prelude.{◌≡◌, ℕ, ◌+◌, ◌-◌, ◌<◌, ◌≤◌, Bool, true, false, ◌&&◌, ◌⊎◌, List, ◌++◌, map, length, Some, None, Option, ◌≢◌, refl}
use Rattle.std.proofs.Common.{sym, ap, ap₂, ◌∙◌, inl, inr, ⊎_elim, arith, length-append}
use mathlib.Core.List.{Memᴰ}
use Rattle.std.proofs.lemmas.Bool.{le-leb, lt-leb, and_parts, and_from, cases_lt}
use Rattle.std.proofs.lemmas.Bool.Decides.{same_from_decides}
use Rattle.family.specs.declared.edges.Edge.{Edge}
use Rattle.family.specs.Families.{FamilyLaws, Choice, walked, AllFrom}
use Rattle.supplied.specs.Pairs.{pair, both_some, pair_axes, pair_holds, pair_inside, pair_meet, pair_shifted}
use Rattle.supplied.specs.PairShifts.{first_of, second_of, walked_both}
use Rattle.supplied.specs.Walks.{seen, all_append, reached_through}
use Rattle.supplied.specs.declared.pairs.Pair.{Pair}

swap_middle : (a b c d : Bool) → ((a && b) && (c && d)) ≡ ((a && c) && (b && d))
swap_middle true true c d = refl
swap_middle true false true d = refl
swap_middle true false false d = refl
swap_middle false b c d = refl

both_given : {A B : Type 0} (a : Option A) (b : Option B) (m : Pair A B) → both_some a b ≡ Some m → (a ≡ Some m.first) × (b ≡ Some m.second)
both_given (Some a) (Some b) m h = let e : pair a b ≡ m = cc in (ap (λ (x : Pair _ _). Some x.first) e, ap (λ (x : Pair _ _). Some x.second) e)
both_given (Some a) None m h = absurd (cc)
both_given None (Some b) m h = absurd (cc)
both_given None None m h = absurd (cc)

one_none : {A B : Type 0} (a : Option A) (b : Option B) → both_some a b ≡ None → (a ≡ None) ⊎ (b ≡ None)
one_none (Some a) (Some b) h = absurd (cc)
one_none (Some a) None h = inr refl
one_none None b h = inl refl

module _ {R P S Q : Type 0} {whole_f : R} {first_f : P} {m : ℕ} {holds_f : R → P → Bool} {inside_f : R → R → Bool} {meet_f : R → R → Option R} {shifted_f : P → ℕ → Edge → R → P} {whole_g : S} {first_g : Q} {n : ℕ} {holds_g : S → Q → Bool} {inside_g : S → S → Bool} {meet_g : S → S → Option S} {shifted_g : Q → ℕ → Edge → S → Q} (f : FamilyLaws whole_f first_f m holds_f inside_f meet_f shifted_f) (g : FamilyLaws whole_g first_g n holds_g inside_g meet_g shifted_g) where
  abbrev holds : Pair R S → Pair P Q → Bool
  holds = pair_holds holds_f holds_g

  abbrev inside : Pair R S → Pair R S → Bool
  inside = pair_inside inside_f inside_g

  abbrev meet : Pair R S → Pair R S → Option (Pair R S)
  meet = pair_meet meet_f meet_g

  abbrev shifted : Pair P Q → ℕ → Edge → Pair R S → Pair P Q
  shifted = pair_shifted m n shifted_f shifted_g

  parts : (r : Pair R S) (p : Pair P Q) → holds r p ≡ true → (holds_f r.first p.first ≡ true) × (holds_g r.second p.second ≡ true)
  parts r p h = and_parts (holds_f r.first p.first) (holds_g r.second p.second) h

  joined : (r : Pair R S) (p : Pair P Q) → holds_f r.first p.first ≡ true → holds_g r.second p.second ≡ true → holds r p ≡ true
  joined r p h k = and_from (holds_f r.first p.first) (holds_g r.second p.second) h k

  inside-holds : (a b : Pair R S) → inside a b ≡ true → (p : Pair P Q) → holds a p ≡ true → holds b p ≡ true
  inside-holds a b h p k =
      let (hf, hg) = and_parts (inside_f a.first b.first) (inside_g a.second b.second) h in
      let (kf, kg) = parts a p k in
      joined b p (f.inside-holds a.first b.first hf p.first kf)
      (g.inside-holds a.second b.second hg p.second kg)

  -- what one part of a pair holds shows with a point of the other part beside it
  first_holds : (a b : Pair R S) → ((p : Pair P Q) → holds a p ≡ true → holds b p ≡ true) → (p : P) → holds_f a.first p ≡ true → holds_f b.first p ≡ true
  first_holds a b all p h =
      let (q, k) = g.inhabited a.second in (parts b (pair p q) (all (pair p q) (joined a (pair p q) h k))).0

  second_holds : (a b : Pair R S) → ((p : Pair P Q) → holds a p ≡ true → holds b p ≡ true) → (q : Q) → holds_g a.second q ≡ true → holds_g b.second q ≡ true
  second_holds a b all q h =
      let (p, k) = f.inhabited a.first in (parts b (pair p q) (all (pair p q) (joined a (pair p q) k h))).1

  holds-inside : (a b : Pair R S) → ((p : Pair P Q) → holds a p ≡ true → holds b p ≡ true) → inside a b ≡ true
  holds-inside a b all =
      and_from (inside_f a.first b.first) (inside_g a.second b.second)
      (f.holds-inside a.first b.first (first_holds a b all))
      (g.holds-inside a.second b.second (second_holds a b all))

  same_points : (a b : Pair R S) → ((p : Pair P Q) → holds a p ≡ holds b p) → a ≡ b
  same_points a b same =
      let there : (p : Pair P Q) → holds a p ≡ true → holds b p ≡ true = λ p h. sym (same p) ∙ h in
      let back : (p : Pair P Q) → holds b p ≡ true → holds a p ≡ true = λ p h. same p ∙ h in
      ap₂ pair
      (f.same_points a.first b.first (λ p. same_from_decides (holds_f a.first p) (holds_f b.first p) (first_holds a b there p, first_holds b a back p) (λ h. h, λ h. h)))
      (g.same_points a.second b.second (λ q. same_from_decides (holds_g a.second q) (holds_g b.second q) (second_holds a b there q, second_holds b a back q) (λ h. h, λ h. h)))

  meet-holds : (a b c : Pair R S) → meet a b ≡ Some c → (p : Pair P Q) → holds c p ≡ (holds a p && holds b p)
  meet-holds a b c h p =
      let (hf, hg) = both_given (meet_f a.first b.first) (meet_g a.second b.second) c h in
      ap₂ ◌&&◌ (f.meet-holds a.first b.first c.first hf p.first) (g.meet-holds a.second b.second c.second hg p.second)
      ∙ swap_middle (holds_f a.first p.first) (holds_f b.first p.first) (holds_g a.second p.second) (holds_g b.second p.second)

  no_meet : (a b : Pair R S) → meet a b ≡ None → (p : Pair P Q) → holds a p ≡ true → holds b p ≢ true
  no_meet a b h p ha hb =
      let (fa, ga) = parts a p ha in
      let (fb, gb) = parts b p hb in
      ⊎_elim (λ (e : meet_f a.first b.first ≡ None). f.no_meet a.first b.first e p.first fa fb)
      (λ (e : meet_g a.second b.second ≡ None). g.no_meet a.second b.second e p.second ga gb)
      (one_none (meet_f a.first b.first) (meet_g a.second b.second) h)

  pub pair_laws : FamilyLaws (pair whole_f whole_g) (pair first_f first_g) (pair_axes m n) holds inside meet shifted
  pair_laws = record {
    inhabited = λ r. let (p, h) = f.inhabited r.first in
        let (q, k) = g.inhabited r.second in
        (pair p q, joined r (pair p q) h k);
    everything = λ p. joined (pair whole_f whole_g) p (f.everything p.first) (g.everything p.second);
    inside-holds = inside-holds;
    holds-inside = holds-inside;
    same_points = same_points;
    meet-holds = meet-holds;
    no_meet = no_meet;
    axes_low = omega (arith, f.axes_low);
    axes_high = omega arith;
    other_axis = other_axis;
    reached = reached;
  }
    where
      along_first : m + n ≤ 4 → (p : Pair P Q) (axis : ℕ) (e : Edge) (r : Pair R S) → axis ≤ m → shifted p axis e r ≡ pair (shifted_f p.first axis e r.first) p.second
      along_first few p axis e r le = rw (lt-leb 5 (m + n) (omega arith), le-leb axis m le) refl

      along_second : m + n ≤ 4 → (p : Pair P Q) (axis : ℕ) (e : Edge) (r : Pair R S) → m < axis → shifted p axis e r ≡ pair p.first (shifted_g p.second (axis - m) e r.second)
      along_second few p axis e r lt = rw (lt-leb 5 (m + n) (omega arith), lt-leb axis m lt) refl

      many_axes : (p : Pair P Q) (axis : ℕ) (e : Edge) (r : Pair R S) → 5 ≤ m + n → shifted p axis e r ≡ p
      many_axes p axis e r many = rw (le-leb 5 (m + n) many) refl

      other_axis : (p : Pair P Q) (axis : ℕ) (e : Edge) (r : Pair R S) → (axis ≡ 0) ⊎ ((pair_axes m n < axis) ⊎ (pair_axes m n ≡ 5)) → shifted p axis e r ≡ p
      other_axis p axis e r h =
          ⊎_elim
          (λ (few : m + n < 5). let few' : m + n ≤ 4 = omega arith in
          ⊎_elim
          (λ (lt : m < axis). along_second few' p axis e r lt ∙ ap (pair p.first) (g.other_axis p.second (axis - m) e r.second (inr (inl (omega arith)))))
          (λ (le : axis ≤ m). along_first few' p axis e r le ∙ ap (λ (x : P). pair x p.second) (f.other_axis p.first axis e r.first (inl (omega arith))))
          (cases_lt m axis))
          (λ (many : 5 ≤ m + n). many_axes p axis e r many) (cases_lt (m + n) 5)

      -- choices for one part and for the other lead to both parts' points
      both_reached : (p : Pair P Q) (r : Pair R S) (xs ys : List (Choice (Pair R S))) → m + n ≤ 4 → length xs ≡ m → holds_f r.first (walked shifted_f first_f 1 (map (seen first_of) xs)) ≡ holds_f r.first p.first → holds_g r.second (walked shifted_g first_g 1 (map (seen second_of) ys)) ≡ holds_g r.second p.second → holds r (walked shifted (pair first_f first_g) 1 (xs ++ ys)) ≡ holds r p
      both_reached p r xs ys few len h k =
          ap (holds r) (walked_both m n shifted_f shifted_g (along_first few) (along_second few) (pair first_f first_g) xs ys len) ∙ ap₂ ◌&&◌ h k

      reached : pair_axes m n ≤ 4 → (p : Pair P Q) (rs : List (Pair R S)) → (cs : List (Choice (Pair R S))) × (length cs ≡ pair_axes m n) × AllFrom rs cs × ((r : Pair R S) → Memᴰ r rs → holds r (walked shifted (pair first_f first_g) 1 cs) ≡ holds r p)
      reached few p rs =
          let sum : m + n ≤ 4 = omega arith in
          let (xs, lx, ax, sx) = reached_through f first_of (omega arith) p.first rs in
          let (ys, ly, ay, sy) = reached_through g second_of (omega arith) p.second rs in
          (xs ++ ys, omega (arith, length-append xs ys, lx, ly), all_append rs xs ys ax ay, λ r k. both_reached p r xs ys sum lx (sx r k) (sy r k))
