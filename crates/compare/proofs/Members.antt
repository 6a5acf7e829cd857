-- Elements of lists: by membership, by place, by a test, and of what a filter keeps.
use Rattle.std.proofs.Common.{◌≡◌, ℕ, zero, suc, ◌+◌, ◌<◌, ◌≤◌, Bool, true, false, cond, ◌||◌, ◌⊎◌, List, [], ◌∷◌, ◌++◌, length, take, Some, None, filter, sym, refl, ap, ◌∙◌, inl, inr, arith}
use mathlib.Core.List.Memᴰ
use mathlib.Core.List.{Memᴰ}
use Rattle.std.specs.List.{AllByRecursion, slice_get}
use Rattle.std.proofs.lemmas.Bool.{or_left, or_right, or_cases, or_parts, cases_eq, false≢true}
use Rattle.std.specs.List.{list_any}
use Rattle.compare.specs.Cells.{numbers}

-- nothing is something
pub nothing : {X B : Type 0} {x : X} → None ≡ Some x → B
nothing {X} {B} {x} e = let z : ◌≡◌ {A = ℕ} 0 1 = cc in absurd (omega arith)

module _ {X : Type 0} where
  -- what all have, a member has
  pub all_member : (Q : X → Type 0) (x : X) (xs : List X) → AllByRecursion Q xs → Memᴰ x xs → Q x
  all_member Q x [] all m = absurd (Memᴰ.not-nil m)
  all_member Q x (y ∷ ys) all m = elim (Memᴰ.cases_cons m) [ inl e ↦ rw e all.0 | inr n ↦ all_member Q x ys all.1 n ]

  pub all_by_member : (Q : X → Type 0) (xs : List X) → ((x : X) → Memᴰ x xs → Q x) → AllByRecursion Q xs
  all_by_member Q [] each = tt
  all_by_member Q (y ∷ ys) each = (each y (Memᴰ.head refl), all_by_member Q ys (λ x m. each x (Memᴰ.tail m)))

  -- places and members
  pub nth_member : (xs : List X) (k : ℕ) (x : X) → slice_get xs k ≡ Some x → Memᴰ x xs
  nth_member [] k x e = nothing e
  nth_member (y ∷ ys) zero x e = Memᴰ.head (cc)
  nth_member (y ∷ ys) (suc k) x e = Memᴰ.tail (nth_member ys k x e)

  pub member_place : (x : X) (xs : List X) → Memᴰ x xs → (k : ℕ) × (slice_get xs k ≡ Some x)
  member_place x [] m = absurd (Memᴰ.not-nil m)
  member_place x (y ∷ ys) m = elim (Memᴰ.cases_cons m) [ inl e ↦ (0, ap Some (sym e)) | inr n ↦ (let t = member_place x ys n in (suc t.0, t.1)) ]

  pub nth_append : (xs more : List X) (k : ℕ) (x : X) → slice_get xs k ≡ Some x → slice_get (xs ++ more) k ≡ Some x
  nth_append [] more k x e = nothing e
  nth_append (y ∷ ys) more zero x e = e
  nth_append (y ∷ ys) more (suc k) x e = nth_append ys more k x e

  pub nth_below : (xs more : List X) (k : ℕ) (x : X) → k < length xs → slice_get (xs ++ more) k ≡ Some x → slice_get xs k ≡ Some x
  nth_below [] more k x h e = absurd (omega arith)
  nth_below (y ∷ ys) more zero x h e = e
  nth_below (y ∷ ys) more (suc k) x h e = nth_below ys more k x (omega arith) e

  pub nth_taken : (xs : List X) (n k : ℕ) (x : X) → k < n → slice_get xs k ≡ Some x → Memᴰ x (take n xs)
  nth_taken [] n k x h e = nothing e
  nth_taken (y ∷ ys) zero k x h e = absurd (omega arith)
  nth_taken (y ∷ ys) (suc n) zero x h e = Memᴰ.head (cc)
  nth_taken (y ∷ ys) (suc n) (suc k) x h e = Memᴰ.tail (nth_taken ys n k x (omega arith) e)

  module _ (p : X → Bool) where
    -- some element passes
    pub any_from : (xs : List X) → list_any p xs ≡ true → (x : X) × Memᴰ x xs × (p x ≡ true)
    any_from [] t = let z : ◌≡◌ {A = ℕ} 0 1 = cc in absurd (omega arith)
    any_from (x ∷ xs) t = elim (or_cases (p x) (list_any p xs) t) [ inl here ↦ (x, Memᴰ.head refl, here) | inr more ↦ (let s = any_from xs more in (s.0, Memᴰ.tail s.1, s.2)) ]

    pub any_by : (x : X) (xs : List X) → Memᴰ x xs → p x ≡ true → list_any p xs ≡ true
    any_by x [] m t = absurd (Memᴰ.not-nil m)
    any_by x (y ∷ ys) m t = elim (Memᴰ.cases_cons m) [ inl e ↦ or_left (p y) (list_any p ys) (sym (ap p e) ∙ t) | inr n ↦ or_right (p y) (list_any p ys) (any_by x ys n t) ]

    pub any_not : (x : X) (xs : List X) → list_any p xs ≡ false → Memᴰ x xs → p x ≡ false
    any_not x [] f m = absurd (Memᴰ.not-nil m)
    any_not x (y ∷ ys) f m =
        let both = or_parts (p y) (list_any p ys) f in
        elim (Memᴰ.cases_cons m) [ inl e ↦ ap p e ∙ both.0 | inr n ↦ any_not x ys both.1 n ]

    pub none_passes : (xs : List X) → ((x : X) → Memᴰ x xs → p x ≡ false) → list_any p xs ≡ false
    none_passes [] each = refl
    none_passes (x ∷ xs) each = ap (λ b. b || list_any p xs) (each x (Memᴰ.head refl)) ∙ none_passes xs (λ y m. each y (Memᴰ.tail m))

    -- what a filter keeps
    kept_either : (x y : X) (ks : List X) (b : Bool) → Memᴰ x (cond b (y ∷ ks) ks) → ((x ≡ y) × (b ≡ true)) ⊎ Memᴰ x ks
    kept_either x y ks true m = elim (Memᴰ.cases_cons m) [ inl e ↦ inl (e, refl) | inr n ↦ inr n ]
    kept_either x y ks false m = inr m

    either_kept : (x y : X) (ks : List X) (b : Bool) → ((x ≡ y) × (b ≡ true)) ⊎ Memᴰ x ks → Memᴰ x (cond b (y ∷ ks) ks)
    either_kept x y ks true (inl h) = Memᴰ.head h.0
    either_kept x y ks true (inr n) = Memᴰ.tail n
    either_kept x y ks false (inl h) = absurd (false≢true h.1)
    either_kept x y ks false (inr n) = n

    pub kept_from : (x : X) (xs : List X) → Memᴰ x (filter p xs) → Memᴰ x xs × (p x ≡ true)
    kept_from x [] m = absurd (Memᴰ.not-nil m)
    kept_from x (y ∷ ys) m = elim (kept_either x y (filter p ys) (p y) m) [ inl h ↦ (Memᴰ.head h.0, ap p h.0 ∙ h.1) | inr n ↦ (let s = kept_from x ys n in (Memᴰ.tail s.0, s.1)) ]

    pub kept_with : (x : X) (xs : List X) → Memᴰ x xs → p x ≡ true → Memᴰ x (filter p xs)
    kept_with x [] m t = absurd (Memᴰ.not-nil m)
    kept_with x (y ∷ ys) m t = either_kept x y (filter p ys) (p y) (elim (Memᴰ.cases_cons m) [ inl e ↦ inl (e, sym (ap p e) ∙ t) | inr n ↦ inr (kept_with x ys n t) ])

-- the numbers of a list's elements
pub numbers-within : {X : Type 0} (i n : ℕ) (xs : List X) → Memᴰ n (numbers i xs) → (i ≤ n) × (n < i + length xs)
numbers-within i n [] m = absurd (Memᴰ.not-nil m)
numbers-within i n (x ∷ xs) m = elim (Memᴰ.cases_cons m) [ inl e ↦ (omega arith, omega arith) | inr k ↦ (let s = numbers-within (suc i) n xs k in (omega arith, omega arith)) ]

pub within-numbers : {X : Type 0} (i n : ℕ) (xs : List X) → i ≤ n → n < i + length xs → Memᴰ n (numbers i xs)
within-numbers i n [] low high = absurd (omega arith)
within-numbers i n (x ∷ xs) low high = elim (cases_eq n i) [ inl e ↦ Memᴰ.head e | inr ne ↦ Memᴰ.tail (within-numbers (suc i) n xs (omega arith) (omega arith)) ]
