-- What stands in a list after regions were put at its end: each that was put, what stood before, nothing twice.
use Rattle.std.proofs.Common.{◌≡◌, ℕ, zero, suc, Bool, true, false, cond, ◌⊎◌, List, [], ◌∷◌, ◌++◌, length, Some, None, fold, Option, sym, refl, ap, ◌∙◌, subst, inl, inr}
use mathlib.Core.List.Memᴰ
use mathlib.Core.List.{Memᴰ}
use Rattle.std.specs.List.{AllByRecursion, slice_get}
use Rattle.std.proofs.ByRecursion.{All-push}
use Rattle.std.proofs.lemmas.Bool.{both_ways}
use Rattle.family.specs.Families.{FamilyLaws}
use Rattle.family.specs.declared.clauses.Clause.{Clause}
use Rattle.family.specs.declared.edges.Edge.{Edge}
use Rattle.compare.specs.Meets.{Once}
use Rattle.compare.specs.Regions.{stands, put, put_clauses, put_meet, put_meets}
use Rattle.compare.proofs.Extended.{Extends, folded_extends, put_extends, put_meet_extends}
use Rattle.compare.proofs.Insides.{stands-listed, listed-stands}
use Rattle.compare.proofs.Members.{nothing, nth_member}

module _ {X : Type 0} where
  pub extends_member : (x : X) (xs ys : List X) → Extends xs ys → Memᴰ x xs → Memᴰ x ys
  extends_member x xs ys e m = rw e.1 (Memᴰ.append_left e.0 m)

  -- what stands at a place of a list with one more at its end
  push_cases : (xs : List X) (y : X) (k : ℕ) (x : X) → slice_get (xs ++ (y ∷ [])) k ≡ Some x → (slice_get xs k ≡ Some x) ⊎ ((k ≡ length xs) × (x ≡ y))
  push_cases [] y zero x e = inr (refl, (cc))
  push_cases [] y (suc k) x e = nothing e
  push_cases (z ∷ zs) y zero x e = inl e
  push_cases (z ∷ zs) y (suc k) x e = elim (push_cases zs y k x e) [ inl h ↦ inl h | inr h ↦ inr (ap suc h.0, h.1) ]

  once_push : (xs : List X) (y : X) → Once xs → (Memᴰ y xs → ⊥) → Once (xs ++ (y ∷ []))
  once_push xs y once new m n x e f = by (push_cases xs y m x e) (push_cases xs y n x f)
    where
      by : (slice_get xs m ≡ Some x) ⊎ ((m ≡ length xs) × (x ≡ y)) → (slice_get xs n ≡ Some x) ⊎ ((n ≡ length xs) × (x ≡ y)) → m ≡ n
      by (inl a) (inl b) = once m n x a b
      by (inl a) (inr b) = absurd (new (subst (λ z. Memᴰ z xs) b.1 (nth_member xs m x a)))
      by (inr a) (inl b) = absurd (new (subst (λ z. Memᴰ z xs) a.1 (nth_member xs n x b)))
      by (inr a) (inr b) = a.0 ∙ sym b.0

  -- what each step of a fold keeps, the fold keeps
  pub folded_keeps : {Y : Type 0} (f : X → Y → X) (Q : X → Type 0) (ys : List Y) → ((x : X) (y : Y) → Memᴰ y ys → Q x → Q (f x y)) → (x : X) → Q x → Q (fold f x ys)
  folded_keeps f Q [] step x q = q
  folded_keeps f Q (y ∷ ys) step x q = folded_keeps f Q ys (λ z w m. step z w (Memᴰ.tail m)) (f x y) (step x y (Memᴰ.head refl) q)

  -- what a step puts in stands at the end
  pub folded_lists : {Y : Type 0} (f : List X → Y → List X) → ((xs : List X) (y : Y) → Extends xs (f xs y)) → (x : X) (y : Y) → ((xs : List X) → Memᴰ x (f xs y)) → (xs : List X) (ys : List Y) → Memᴰ y ys → Memᴰ x (fold f xs ys)
  folded_lists f adds x y puts xs [] m = absurd (Memᴰ.not-nil m)
  folded_lists f adds x y puts xs (z ∷ zs) m =
      elim (Memᴰ.cases_cons m) [
        | inl e ↦ extends_member x (f xs z) (fold f (f xs z) zs) (folded_extends f adds (f xs z) zs) (subst (λ w. Memᴰ x (f xs w)) e (puts xs))
        | inr n ↦ folded_lists f adds x y puts (f xs z) zs n
      ]

module _ {R P : Type 0} {whole : R} {first : P} {axes : ℕ} {holds : R → P → Bool} {inside : R → R → Bool} {meet : R → R → Option R} {shifted : P → ℕ → Edge → R → P} (laws : FamilyLaws whole first axes holds inside meet shifted) where
  -- a list of regions that have a property, each once
  abbrev pub Sound : (R → Type 0) → List R → Type 0
  Sound Q xs = Once xs × AllByRecursion Q xs

  pub put-lists : (xs : List R) (r : R) → Memᴰ r (put inside xs r)
  put-lists xs r = by (stands inside r xs) refl
    where
      by : (b : Bool) → stands inside r xs ≡ b → Memᴰ r (cond b xs (xs ++ (r ∷ [])))
      by true e = stands-listed laws r xs e
      by false e = Memᴰ.append_right xs (Memᴰ.head refl)

  pub put_sound : (Q : R → Type 0) (xs : List R) (r : R) → Sound Q xs → Q r → Sound Q (put inside xs r)
  put_sound Q xs r s q = by (stands inside r xs) refl
    where
      by : (b : Bool) → stands inside r xs ≡ b → Sound Q (cond b xs (xs ++ (r ∷ [])))
      by true e = s
      by false e = (once_push xs r s.0 (λ m. both_ways (stands inside r xs) e (listed-stands laws r xs m)), All-push Q xs r s.1 q)

  pub put_clauses-lists : {A : Type 0} (clauses : List (Clause R A)) (xs : List R) (c : Clause R A) → Memᴰ c clauses → Memᴰ c.region (put_clauses inside clauses xs)
  put_clauses-lists clauses xs c m = folded_lists (λ ys d. put inside ys d.region) (λ ys d. put_extends inside ys d.region) c.region c (λ ys. put-lists ys c.region) xs clauses m

  pub put_clauses_sound : {A : Type 0} (Q : R → Type 0) (clauses : List (Clause R A)) (xs : List R) → ((c : Clause R A) → Memᴰ c clauses → Q c.region) → Sound Q xs → Sound Q (put_clauses inside clauses xs)
  put_clauses_sound Q clauses xs each s = folded_keeps (λ ys c. put inside ys c.region) (Sound Q) clauses (λ ys c m t. put_sound Q ys c.region t (each c m)) xs s

  meet-lists : (xs : List R) (o : Option R) (m : R) → o ≡ Some m → Memᴰ m (put_meet inside xs o)
  meet-lists xs None m e = nothing e
  meet-lists xs (Some n) m e = subst (λ r. Memᴰ r (put inside xs n)) (cc) (put-lists xs n)

  meet_sound : (Q : R → Type 0) (xs : List R) (o : Option R) → ((m : R) → o ≡ Some m → Q m) → Sound Q xs → Sound Q (put_meet inside xs o)
  meet_sound Q xs None q s = s
  meet_sound Q xs (Some m) q s = put_sound Q xs m s (q m refl)

  pub put_meets-lists : (r : R) (others xs : List R) (b m : R) → Memᴰ b others → meet r b ≡ Some m → Memᴰ m (put_meets inside meet r others xs)
  put_meets-lists r others xs b m within is = folded_lists (λ ys c. put_meet inside ys (meet r c)) (λ ys c. put_meet_extends inside ys (meet r c)) m b (λ ys. meet-lists ys (meet r b) m is) xs others within

  pub put_meets_sound : (Q : R → Type 0) (r : R) (others xs : List R) → ((b m : R) → Memᴰ b others → meet r b ≡ Some m → Q m) → Sound Q xs → Sound Q (put_meets inside meet r others xs)
  put_meets_sound Q r others xs each s = folded_keeps (λ ys c. put_meet inside ys (meet r c)) (Sound Q) others (λ ys b within t. meet_sound Q ys (meet r b) (λ m is. each b m within is) t) xs s
