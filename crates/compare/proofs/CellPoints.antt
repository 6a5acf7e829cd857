-- Each point lies in one cell, that of the least listed region that holds it, and the cell's region is inside every listed region that holds the point.
use Rattle.std.proofs.Common.{◌≡◌, ℕ, suc, ◌<◌, Bool, true, false, cond, not, List, [], ◌∷◌, length, Some, Option, sym, refl, ap, ◌∙◌, inl, inr, arith}
use mathlib.Core.List.Memᴰ
use mathlib.Core.List.{Memᴰ}
use Rattle.std.proofs.lemmas.Option.{slice_get-get_or, slice_get_within, get_or_from_slice_get}
use Rattle.std.proofs.lemmas.Bool.{and_from, and_parts, both_ways, cases_Bool, not-true}
use Rattle.family.specs.Families.{FamilyLaws}
use Rattle.std.specs.List.{list_any}
use Rattle.family.specs.Lists.{first_where}
use Rattle.family.specs.declared.clauses.Clause.{Clause}
use Rattle.family.specs.declared.edges.Edge.{Edge}
use Rattle.compare.specs.Cells.{region_at, numbers, strictly, holes_of, holding, in_cell}
use Rattle.compare.specs.Meets.{Once}
use Rattle.compare.specs.Reported.{decided_at}
use Rattle.compare.specs.Rows.{covers, place_of}
use Rattle.compare.proofs.Closed.{Closed}
use Rattle.compare.proofs.HoleAround.{hole_around, hole_within}
use Rattle.compare.proofs.Insides.{same_test, inside_on, inside_both, meet-found, meet_left, meet_right, meet_has}
use Rattle.compare.proofs.Members.{nth_member, member_place, none_passes, any_not, numbers-within, within-numbers}

first-same : {X : Type 0} (f g : X → Bool) (xs : List X) → ((x : X) → Memᴰ x xs → f x ≡ g x) → first_where f xs ≡ first_where g xs
first-same f g [] each = refl
first-same f g (x ∷ xs) each =
    ap (λ b. cond b 0 (suc (first_where f xs))) (each x (Memᴰ.head refl)) ∙ ap (λ n. cond (g x) 0 (suc n)) (first-same f g xs (λ y m. each y (Memᴰ.tail m)))

module _ {R P : Type 0} {whole : R} {first : P} {axes : ℕ} {holds : R → P → Bool} {inside : R → R → Bool} {meet : R → R → Option R} {shifted : P → ℕ → Edge → R → P} (laws : FamilyLaws whole first axes holds inside meet shifted) (xs : List R) where
  abbrev at : ℕ → R
  at = region_at whole xs

  -- a region's number and then its holes'
  abbrev pub cell_of : ℕ → List ℕ
  cell_of n = n ∷ holes_of inside whole xs (at n)

  -- a number and its region
  at_listed : (n : ℕ) → n < length xs → Memᴰ (at n) xs
  at_listed n h = nth_member xs n (at n) (slice_get-get_or xs n whole h)

  pub number_of : (r : R) → Memᴰ r xs → (n : ℕ) × (n < length xs) × (at n ≡ r)
  number_of r m =
      let k = member_place r xs m in
      (k.0, slice_get_within xs k.0 r k.1, get_or_from_slice_get xs k.0 r whole k.1)

  -- of some numbered regions, a listed one holds the point and is inside each that does
  abbrev LeastOf : List ℕ → ℕ → P → Type 0
  LeastOf ns n p = (n < length xs) × (holds (at n) p ≡ true) × ((j : ℕ) → Memᴰ j ns → holds (at j) p ≡ true → inside (at n) (at j) ≡ true)

  -- the least listed region that holds a point
  abbrev pub Least : ℕ → P → Type 0
  Least n p = (n < length xs) × (holds (at n) p ≡ true) × ((j : ℕ) → j < length xs → holds (at j) p ≡ true → inside (at n) (at j) ≡ true)

  module _ (closed : Closed laws xs) where
    -- the meet of two listed regions that hold a point, by its number
    both_of : (m n : ℕ) (p : P) → m < length xs → n < length xs → holds (at m) p ≡ true → holds (at n) p ≡ true → (l : ℕ) × (l < length xs) × (holds (at l) p ≡ true) × (inside (at l) (at m) ≡ true) × (inside (at l) (at n) ≡ true)
    both_of m n p hm hn pm pn =
        let r = meet-found laws (at m) (at n) p pm pn in
        let l = number_of r.0 (closed (at m) (at n) r.0 (at_listed m hm) (at_listed n hn) r.1) in
        (l.0, l.1, ap (λ x. holds x p) l.2 ∙ meet_has laws (at m) (at n) r.0 r.1 p pm pn, ap (λ x. inside x (at m)) l.2 ∙ meet_left laws (at m) (at n) r.0 r.1, ap (λ x. inside x (at n)) l.2 ∙ meet_right laws (at m) (at n) r.0 r.1)

    least_of : (p : P) → Memᴰ whole xs → (ns : List ℕ) → ((j : ℕ) → Memᴰ j ns → j < length xs) → (n : ℕ) × LeastOf ns n p
    least_of p has [] within =
        let w = number_of whole has in
        (w.0, (w.1, ap (λ x. holds x p) w.2 ∙ laws.everything p, λ j m. absurd (Memᴰ.not-nil m)))
    least_of p has (k ∷ ns) within =
        let s = least_of p has ns (λ j m. within j (Memᴰ.tail m)) in
        let n = s.0 in
        let low = s.1.0 in
        elim (cases_Bool (holds (at k) p)) [
          | inl t ↦
              (let l = both_of n k p low (within k (Memᴰ.head refl)) s.1.1 t in
              (l.0, (l.1, l.2, λ j m h. elim (Memᴰ.cases_cons m) [ inl e ↦ ap (λ i. inside (at l.0) (at i)) e ∙ l.4 | inr i ↦ inside_on laws (at l.0) (at n) (at j) l.3 (s.1.2 j i h) ])))
          | inr f ↦ (n, (low, s.1.1, λ j m h. elim (Memᴰ.cases_cons m) [ inl e ↦ absurd (both_ways (holds (at k) p) f (ap (λ i. holds (at i) p) (sym e) ∙ h)) | inr i ↦ s.1.2 j i h ]))
        ]

    pub least_found : Memᴰ whole xs → (p : P) → (n : ℕ) × Least n p
    least_found has p =
        let s = least_of p has (numbers 0 xs) (λ j m. let k = numbers-within 0 j xs m in omega (arith, k.1)) in
        (s.0, (s.1.0, s.1.1, λ j h t. s.1.2 j (within-numbers 0 j xs (omega arith) (omega arith)) t))

    -- a point of a cell has the cell's region as its least
    pub cell_least : (n : ℕ) (p : P) → n < length xs → in_cell holds at (cell_of n) p ≡ true → Least n p
    cell_least n p low t =
        let both = and_parts (holding holds at p n) (not (list_any (holding holds at p) (holes_of inside whole xs (at n)))) t in
        let out = not-true (list_any (holding holds at p) (holes_of inside whole xs (at n))) both.1 in
        (low, both.0, λ j h k. under out j (both_of n j p low h both.0 k))
      where
        under : list_any (holding holds at p) (holes_of inside whole xs (at n)) ≡ false → (j : ℕ) → (l : ℕ) × (l < length xs) × (holds (at l) p ≡ true) × (inside (at l) (at n) ≡ true) × (inside (at l) (at j) ≡ true) → inside (at n) (at j) ≡ true
        under out j l =
            elim (cases_Bool (inside (at n) (at l.0))) [
              | inl i ↦ inside_on laws (at n) (at l.0) (at j) i l.4
              | inr f ↦
                  (let h = hole_around laws xs (at n) l.0 l.1 (and_from (inside (at l.0) (at n)) (not (inside (at n) (at l.0))) l.3 (ap not f)) in
                  absurd (both_ways (holds (at h.0) p) (any_not (holding holds at p) h.0 (holes_of inside whole xs (at n)) out h.1) (laws.inside-holds (at l.0) (at h.0) h.2 p l.2)))
            ]

  -- the least region's cell has the point
  pub least_in_cell : (n : ℕ) (p : P) → Least n p → in_cell holds at (cell_of n) p ≡ true
  least_in_cell n p least =
      and_from (holding holds at p n) (not (list_any (holding holds at p) (holes_of inside whole xs (at n)))) least.1
      (ap not (none_passes (holding holds at p) (holes_of inside whole xs (at n)) (λ h m. outside h (hole_within laws xs (at n) h m) (holds (at h) p) refl)))
    where
      outside : (h : ℕ) → (h < length xs) × (strictly inside (at h) (at n) ≡ true) → (b : Bool) → holds (at h) p ≡ b → b ≡ false
      outside h s false e = refl
      outside h s true e = absurd (both_ways (inside (at n) (at h)) (not-true (inside (at n) (at h)) (and_parts (inside (at h) (at n)) (not (inside (at n) (at h))) s.1).1) (least.2 h s.0 e))

  -- a point has one least region
  pub least_once : Once xs → (m n : ℕ) (p : P) → Least m p → Least n p → m ≡ n
  least_once once m n p a b =
      let same = inside_both laws (at m) (at n) (a.2 n b.0 b.1) (b.2 m a.0 a.1) in
      once m n (at m) (slice_get-get_or xs m whole a.0) (slice_get-get_or xs n whole b.0 ∙ ap Some (sym same))

  -- what decides the cell decides its points
  pub least_decides : {A : Type 0} (clauses : List (Clause R A)) → ((c : Clause R A) → Memᴰ c clauses → Memᴰ c.region xs) → (n : ℕ) (p : P) → Least n p → decided_at holds clauses p ≡ place_of inside clauses (at n)
  least_decides clauses listed n p least =
      first-same (λ c. holds c.region p) (covers inside (at n)) clauses (λ c m. let k = number_of c.region (listed c m) in same_test (holds c.region p) (inside (at n) c.region) (λ h. sym (ap (inside (at n)) k.2) ∙ least.2 k.0 k.1 (ap (λ x. holds x p) k.2 ∙ h)) (λ i. laws.inside-holds (at n) c.region i p least.1))
