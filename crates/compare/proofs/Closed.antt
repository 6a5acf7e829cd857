-- The region list grown to its end: with two regions that meet, their meet is listed.
use Rattle.std.proofs.Common.{◌≡◌, ℕ, zero, suc, ◌+◌, ◌<◌, ◌≤◌, Bool, ◌⊎◌, List, length, get_or, take, Some, Option, sym, ap, ◌∙◌, subst, inl, inr, add-one, arith}
use mathlib.Core.List.{Memᴰ}
use Rattle.std.specs.List.{slice_get}
use Rattle.std.proofs.ByRecursion.{All-take}
use Rattle.std.proofs.lemmas.List.{get_or_default}
use Rattle.std.proofs.lemmas.Option.{slice_get-get_or}
use Rattle.std.proofs.lemmas.Bool.{cases_lt, cases_order}
use Rattle.family.specs.Families.{FamilyLaws}
use Rattle.family.specs.declared.edges.Edge.{Edge}
use Rattle.compare.specs.Regions.{put_meets, grown}
use Rattle.compare.proofs.Extended.{Extends, put_meets_extends}
use Rattle.compare.proofs.Growth.{grown-ends, grown-turn}
use Rattle.compare.proofs.Insides.{meet-turned, meet_itself}
use Rattle.std.proofs.lemmas.Option.{slice_get_within}
use Rattle.compare.proofs.Members.{nth_member, nth_below, nth_taken, all_member, member_place}
use Rattle.compare.proofs.Placed.{Sound, extends_member, put_meets-lists, put_meets_sound}

module _ {R P : Type 0} {whole : R} {first : P} {axes : ℕ} {holds : R → P → Bool} {inside : R → R → Bool} {meet : R → R → Option R} {shifted : P → ℕ → Edge → R → P} (laws : FamilyLaws whole first axes holds inside meet shifted) where
  -- the meets of regions below a place are listed
  abbrev pub Done : ℕ → List R → Type 0
  Done a xs = (i j : ℕ) (r s m : R) → j < i → i < a → slice_get xs i ≡ Some r → slice_get xs j ≡ Some s → meet r s ≡ Some m → Memᴰ m xs

  -- with any two regions that meet, their meet is listed
  abbrev pub Closed : List R → Type 0
  Closed xs = (r s m : R) → Memᴰ r xs → Memᴰ s xs → meet r s ≡ Some m → Memᴰ m xs

  -- one turn: the region at place a met with all before it
  abbrev turned : R → ℕ → List R → List R
  turned r a xs = put_meets inside meet r (take a xs) xs

  done_more : (a : ℕ) (xs : List R) (r : R) → slice_get xs a ≡ Some r → Done a xs → Done (suc a) (turned r a xs)
  done_more a xs r is done i j q s m low high ei ej em = by (cases_lt i a)
    where
      ys : List R
      ys = turned r a xs

      more : Extends xs ys
      more = put_meets_extends inside meet r (take a xs) xs

      -- what stands at a place of the list before the turn
      before : (k : ℕ) (x : R) → k ≤ a → slice_get ys k ≡ Some x → slice_get xs k ≡ Some x
      before k x h e =
          let inner = slice_get_within xs a r is in
          nth_below xs more.0 k x (omega arith) (subst (λ l. slice_get l k ≡ Some x) more.1 e)

      by : (i < a) ⊎ (a ≤ i) → Memᴰ m ys
      by (inl under) = extends_member m xs ys more (done i j q s m low under (before i q (omega arith) ei) (before j s (omega arith) ej) em)
      by (inr at) =
          let here : i ≡ a = omega arith in
          let own : Some q ≡ Some r = sym (before i q (omega arith) ei) ∙ ap (slice_get xs) here ∙ is in
          let same : q ≡ r = cc in
          put_meets-lists laws r (take a xs) xs s m (nth_taken xs a j s (omega arith) (before j s (omega arith) ej)) (sym (ap (λ x. meet x s) same) ∙ em)

  done_end : (a : ℕ) (xs : List R) → length xs ≤ a → Done a xs → Closed xs
  done_end a xs h done r s m mr ms is =
      let i = member_place r xs mr in
      let j = member_place s xs ms in
      by i.0 j.0 i.1 j.1 (cases_order i.0 j.0)
    where
      by : (i j : ℕ) → slice_get xs i ≡ Some r → slice_get xs j ≡ Some s → (i ≡ j) ⊎ ((i < j) ⊎ (j < i)) → Memᴰ m xs
      by i j ei ej (inl e) =
          let alike : Some r ≡ Some s = sym ei ∙ ap (slice_get xs) e ∙ ej in
          let same : r ≡ s = cc in
          subst (λ x. Memᴰ x xs) (sym (meet_itself laws r m (ap (meet r) same ∙ is))) mr
      by i j ei ej (inr (inl lt)) = let inner = slice_get_within xs j s ej in done j i s r m lt (omega arith) ej ei (meet-turned laws r s m is)
      by i j ei ej (inr (inr gt)) = let inner = slice_get_within xs i r ei in done i j r s m gt (omega arith) ei ej is

  -- what each turn keeps is kept to the end, where the list ends or no turn is left
  grown_keeps : (Q : ℕ → List R → Type 0) → ((a : ℕ) (xs : List R) (r : R) → slice_get xs a ≡ Some r → Q a xs → Q (suc a) (turned r a xs)) → (k a : ℕ) (xs : List R) → Q a xs → (b : ℕ) × Q b (grown inside meet k a xs) × ((length (grown inside meet k a xs) ≤ b) ⊎ (b ≡ k + a))
  grown_keeps Q step zero a xs q = (a, q, inr (omega arith))
  grown_keeps Q step (suc k) a xs q =
      elim (cases_lt a (length xs)) [
        | inl h ↦
            (let r = get_or xs a whole in
            let turn : grown inside meet (suc k) a xs ≡ grown inside meet k (suc a) (turned r a xs) = grown-turn inside meet k a xs r h (get_or_default xs a whole r h) ∙ ap (λ n. grown inside meet k n (turned r a xs)) (add-one a) in
            let t = grown_keeps Q step k (suc a) (turned r a xs) (step a xs r (slice_get-get_or xs a whole h) q) in
            (t.0, rw turn t.1, elim t.2 [ inl end ↦ inl (omega (arith, ap length turn)) | inr out ↦ inr (omega arith) ]))
        | inr h ↦ (let end = grown-ends inside meet (suc k) a xs h in (a, rw end q, inl (omega (arith, ap length end))))
      ]

  pub grown-closed : (k : ℕ) (xs : List R) → length (grown inside meet k 0 xs) ≤ k → Closed (grown inside meet k 0 xs)
  grown-closed k xs fits =
      let t = grown_keeps Done done_more k 0 xs (λ i j r s m low high ei ej is. absurd (omega arith)) in
      let end : length (grown inside meet k 0 xs) ≤ t.0 = elim t.2 [ inl h ↦ h | inr h ↦ omega arith ] in
      done_end t.0 (grown inside meet k 0 xs) end t.1

  -- a property that meets keep
  module _ (Q : R → Type 0) (met : (r s m : R) → Q r → Q s → meet r s ≡ Some m → Q m) where
    turn_sound : (a : ℕ) (xs : List R) (r : R) → slice_get xs a ≡ Some r → Sound laws Q xs → Sound laws Q (turned r a xs)
    turn_sound a xs r is s =
        let own = all_member Q r xs s.1 (nth_member xs a r is) in
        put_meets_sound laws Q r (take a xs) xs (λ b m within e. met r b m own (all_member Q b (take a xs) (All-take Q a xs s.1) within) e) s

    pub grown_sound : (k : ℕ) (xs : List R) → Sound laws Q xs → Sound laws Q (grown inside meet k 0 xs)
    grown_sound k xs s = (grown_keeps (λ _ ys. Sound laws Q ys) turn_sound k 0 xs s).1
