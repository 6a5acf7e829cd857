-- The region list passes the places exactly when the regions that belong to it outnumber them.
use Rattle.std.proofs.Common.{◌≡◌, ℕ, suc, ◌<◌, ◌≤◌, Bool, ◌↔◌, List, [], ◌∷◌, ◌++◌, length, Option, sym, refl, ap, subst, inl, inr, arith, length-append}
use mathlib.Core.List.Memᴰ
use mathlib.Core.List.{Memᴰ}
use Rattle.std.proofs.lemmas.Bool.{cases_lt}
use Rattle.family.specs.Families.{FamilyLaws}
use Rattle.family.specs.declared.clauses.Clause.{Clause}
use Rattle.family.specs.declared.edges.Edge.{Edge}
use Rattle.compare.specs.Meets.{Once, Belongs, Listed, Outnumber, clause_regions}
use Rattle.compare.specs.Regions.{region_list}
use Rattle.compare.proofs.Meetings.{list_outnumbers, list-listed}
use Rattle.compare.proofs.Members.{member_place, nth_member, all_member}

-- a list in which nothing stands twice is no longer than one that has all its elements
module _ {X : Type 0} where
  -- a list around one of its elements
  around : (x : X) (ys : List X) → Memᴰ x ys → (before : List X) × (after : List X) × (ys ≡ before ++ (x ∷ after))
  around x [] m = absurd (Memᴰ.not-nil m)
  around x (y ∷ ys) m =
      elim (Memᴰ.cases_cons m) [
        | inl e ↦ ([], ys, ap (λ z. z ∷ ys) (sym e))
        | inr n ↦ (let s = around x ys n in (y ∷ s.0, s.1, ap (λ l. y ∷ l) s.2))
      ]

  once-rest : (x : X) (xs : List X) → Once (x ∷ xs) → Once xs
  once-rest x xs once m n y e f = let s : suc m ≡ suc n = once (suc m) (suc n) y e f in omega arith

  once-apart : (x : X) (xs : List X) → Once (x ∷ xs) → Memᴰ x xs → ⊥
  once-apart x xs once m =
      let k = member_place x xs m in
      let z : suc k.0 ≡ 0 = once (suc k.0) 0 x k.1 refl in
      omega arith

  pub fewer : (xs ys : List X) → Once xs → ((x : X) → Memᴰ x xs → Memᴰ x ys) → length xs ≤ length ys
  fewer [] ys once within = omega arith
  fewer (x ∷ xs) ys once within =
      let s = around x ys (within x (Memᴰ.head refl)) in
      let less = fewer xs (s.0 ++ s.1) (once-rest x xs once) (λ y m. other s.0 s.1 y m (subst (Memᴰ y) s.2 (within y (Memᴰ.tail m)))) in
      omega (arith, ap length s.2, length-append s.0 (x ∷ s.1), length-append s.0 s.1)
    where
      other : (before after : List X) (y : X) → Memᴰ y xs → Memᴰ y (before ++ (x ∷ after)) → Memᴰ y (before ++ after)
      other before after y m n =
          elim (Memᴰ.append_cases before n) [
            | inl a ↦ Memᴰ.append_left after a
            | inr b ↦ elim (Memᴰ.cases_cons b) [ inl e ↦ absurd (once-apart x xs once (subst (λ z. Memᴰ z xs) e m)) | inr c ↦ Memᴰ.append_right before c ]
          ]

-- regions that a list holds do not outnumber its places
pub listed-fits : {R P : Type 0} {holds : R → P → Bool} {whole : R} {given xs : List R} → Listed holds whole given xs → (places : ℕ) → length xs ≤ places → Outnumber holds whole given places → ⊥
listed-fits {R} {P} {holds} {whole} {given} {xs} listed places fits many =
    let less = fewer many.0 xs many.2 (λ r m. let s = listed.all r (all_member (Belongs holds whole given) r many.0 many.3 m) in nth_member xs s.0 r s.1) in
    omega (arith, many.1)

module _ {R P : Type 0} {whole : R} {first : P} {axes : ℕ} {holds : R → P → Bool} {inside : R → R → Bool} {meet : R → R → Option R} {shifted : P → ℕ → Edge → R → P} (laws : FamilyLaws whole first axes holds inside meet shifted) {A : Type 0} (left right : List (Clause R A)) (places : ℕ) where
  pub outnumber_exactly : (places < length (region_list inside meet places whole left right)) ↔ Outnumber holds whole (clause_regions left right) places
  outnumber_exactly = (
    list_outnumbers laws left right places,
    λ many. elim (cases_lt places (length (region_list inside meet places whole left right))) [ inl h ↦ h | inr fits ↦ absurd (listed-fits (list-listed laws left right places fits) places fits many) ],
  )
