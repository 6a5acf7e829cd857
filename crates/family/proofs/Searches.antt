-- A loop that looks through a list: what is left of the list decides, one step on and at the end.
use Rattle.std.proofs.Common.{◌≡◌, ℕ, zero, suc, ◌+◌, ◌<◌, ◌≤◌, Bool, true, false, cond, ◌||◌, List, [], ◌∷◌, length, get_or, drop, Some, sym, ap, ◌∙◌, ⊎_elim, arith}
use Rattle.std.proofs.lemmas.List.{drop_more, drop_all}
use Rattle.std.specs.List.{slice_get, list_any}
use Rattle.std.proofs.lemmas.Bool.{cond_both, cases_Bool}
use Rattle.family.specs.Lists.{first_where}

module _ {X : Type 0} (p : X → Bool) (xs : List X) (i : ℕ) where
  -- the list from i on, by its element x at i
  split_at : (x : X) → i < length xs → x ≡ get_or xs i x → drop i xs ≡ x ∷ drop (i + 1) xs
  split_at x h e = drop_more xs i x h ∙ ap (λ y. y ∷ drop (i + 1) xs) (sym e)

  pub any_passes : (x : X) → i < length xs → x ≡ get_or xs i x → p x ≡ true → list_any p (drop i xs) ≡ true
  any_passes x h e t = ap (list_any p) (split_at x h e) ∙ ap (λ b. b || list_any p (drop (i + 1) xs)) t

  pub any_fails : (x : X) → i < length xs → x ≡ get_or xs i x → p x ≡ false → list_any p (drop i xs) ≡ list_any p (drop (i + 1) xs)
  any_fails x h e t = ap (list_any p) (split_at x h e) ∙ ap (λ b. b || list_any p (drop (i + 1) xs)) t

  pub any_ends : length xs ≤ i → list_any p (drop i xs) ≡ false
  any_ends h = ap (list_any p) (drop_all i xs h)

  pub first_passes : (x : X) → i < length xs → x ≡ get_or xs i x → p x ≡ true → i + first_where p (drop i xs) ≡ i
  first_passes x h e t =
      let z : first_where p (drop i xs) ≡ 0 = ap (first_where p) (split_at x h e) ∙ ap (λ b. cond b 0 (suc (first_where p (drop (i + 1) xs)))) t in
      omega arith

  pub first_fails : (x : X) → i < length xs → x ≡ get_or xs i x → p x ≡ false → i + first_where p (drop i xs) ≡ i + 1 + first_where p (drop (i + 1) xs)
  first_fails x h e t =
      let z : first_where p (drop i xs) ≡ suc (first_where p (drop (i + 1) xs)) = ap (first_where p) (split_at x h e) ∙ ap (λ b. cond b 0 (suc (first_where p (drop (i + 1) xs)))) t in
      omega arith

  pub first_ends : length xs ≤ i → i + first_where p (drop i xs) ≡ i
  first_ends h = let z : first_where p (drop i xs) ≡ 0 = ap (first_where p) (drop_all i xs h) in omega arith

pub first-bound : {X : Type 0} (p : X → Bool) (xs : List X) → first_where p xs ≤ length xs
first-bound p [] = omega arith
first-bound p (x ∷ xs) =
    let more = first-bound p xs in
    cond_both (p x) 0 (suc (first_where p xs)) (λ n. n ≤ suc (length xs)) (λ _. omega arith) (λ _. omega arith)

-- what stands before the first place that passes fails, and what stands at it passes
pub first-before : {X : Type 0} (p : X → Bool) (xs : List X) (k : ℕ) (x : X) → k < first_where p xs → slice_get xs k ≡ Some x → p x ≡ false
first-before p [] k x h e = absurd (omega arith)
first-before p (y ∷ ys) zero x h e =
    let same : y ≡ x = cc in
    ⊎_elim
    (λ t. let z : first_where p (y ∷ ys) ≡ 0 = ap (λ b. cond b 0 (suc (first_where p ys))) t in absurd (omega arith))
    (λ f. sym (ap p same) ∙ f) (cases_Bool (p y))
first-before p (y ∷ ys) (suc k) x h e =
    ⊎_elim
    (λ t. let z : first_where p (y ∷ ys) ≡ 0 = ap (λ b. cond b 0 (suc (first_where p ys))) t in absurd (omega arith))
    (λ f. let z : first_where p (y ∷ ys) ≡ suc (first_where p ys) = ap (λ b. cond b 0 (suc (first_where p ys))) f in first-before p ys k x (omega arith) e) (cases_Bool (p y))

pub first-here : {X : Type 0} (p : X → Bool) (xs : List X) (x : X) → slice_get xs (first_where p xs) ≡ Some x → p x ≡ true
first-here p [] x e = let z : ◌≡◌ {A = ℕ} 0 1 = cc in absurd (omega arith)
first-here p (y ∷ ys) x e =
    ⊎_elim
    (λ t.
    let z : first_where p (y ∷ ys) ≡ 0 = ap (λ b. cond b 0 (suc (first_where p ys))) t in
    let at : Some y ≡ Some x = sym (ap (slice_get (y ∷ ys)) z) ∙ e in
    let same : y ≡ x = cc in
    sym (ap p same) ∙ t)
    (λ f.
    let z : first_where p (y ∷ ys) ≡ suc (first_where p ys) = ap (λ b. cond b 0 (suc (first_where p ys))) f in
    first-here p ys x (sym (ap (slice_get (y ∷ ys)) z) ∙ e)) (cases_Bool (p y))
