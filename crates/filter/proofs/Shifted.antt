-- Elements of a list shifted by a place, to make room for one or to close a gap.
use Rattle.std.proofs.Common.{◌≡◌, ℕ, suc, ◌+◌, ◌-◌, ◌<◌, ◌≤◌, List, [], ◌∷◌, ◌++◌, length, take, drop, set, Ok, Err, Result, sym, refl, ap, ◌∙◌, append_assoc, add-one, arith, length-append, length-drop, length-take}
use borrow.Rule.Slice.PartMut.{put_mid, post_of}
use Rattle.std.specs.List.{insert, remove}
use Rattle.std.proofs.lemmas.List.{take_at, drop_at, take_all, take-take, take-set-le, drop-set-lt, drop-append-le, drop-drop, take_more_set, take-append-drop}
use Rattle.std.proofs.lemmas.Slice.{between_is, put_mid-paste}
use Rattle.filter.specs.declared.errors.EditError.{EditError}
use Rattle.filter.specs.Ledger.{if_done, insert_at_answer}
use Rattle.filter.proofs.Fitting.{insert_fits}

module _ {X : Type 0} (xs : List X) (n i : ℕ) (x : X) (low : i ≤ n) (fits : n < length xs) where
  back : List X
  back = drop i (take n xs)

  long : length (take n xs) ≡ n
  long = omega (arith, length-take n xs)

  -- the part from i on, with the new element at its end
  with_last : take (n + 1 - i) (drop i (set xs n x)) ≡ drop i (take n xs) ++ (x ∷ [])
  with_last =
      let reach : i ≤ length (take n xs) = omega (arith, long) in
      between_is (set xs n x) i (n + 1) ∙ ap (drop i) (take_more_set xs n x fits) ∙ drop-append-le i (take n xs) (x ∷ []) reach

  -- turned by one, it has the new element in front
  turned : (part : List X) → part ≡ drop i (take n xs) ++ (x ∷ []) → drop (length part - 1) part ++ take (length part - 1) part ≡ x ∷ drop i (take n xs)
  turned part e =
      let l : List X = drop i (take n xs) in
      let size : length l ≡ length part - 1 = omega (arith, ap length e, length-append l (x ∷ [])) in
      ap (λ p. drop (length part - 1) p ++ take (length part - 1) p) e
      ∙ ap (λ q. q ++ take (length part - 1) (l ++ (x ∷ []))) (drop_at l (x ∷ []) (length part - 1) size)
      ∙ ap (λ q. (x ∷ []) ++ q) (take_at l (x ∷ []) (length part - 1) size)

  pub insert_turns : (part : List X) → part ≡ drop (length (take (n + 1 - i) (drop i (set xs n x))) - 1) (take (n + 1 - i) (drop i (set xs n x))) ++ take (length (take (n + 1 - i) (drop i (set xs n x))) - 1) (take (n + 1 - i) (drop i (set xs n x))) → put_mid i (n + 1 - i) (set xs n x) part ≡ insert (take n xs) i x ++ drop (n + 1) xs
  insert_turns part e =
      let l : List X = drop i (take n xs) in
      let m : ℕ = n + 1 - i in
      let size : m ≡ length (x ∷ l) = omega (arith, length-drop i (take n xs), long) in
      let end : i + m ≡ n + 1 = omega arith in
      let past : n < n + 1 = omega arith in
      put_mid-paste i m (set xs n x) part (x ∷ l) m (e ∙ turned _ with_last) refl size
      ∙ ap (λ f. (f ++ take m (x ∷ l)) ++ drop (i + m) (set xs n x)) (take-set-le i xs n x low ∙ sym (take-take i n xs low))
      ∙ ap (λ f. (take i (take n xs) ++ f) ++ drop (i + m) (set xs n x)) (take_all m (x ∷ l) (omega arith))
      ∙ ap (λ k. (take i (take n xs) ++ (x ∷ l)) ++ drop k (set xs n x)) end
      ∙ ap (λ f. (take i (take n xs) ++ (x ∷ l)) ++ f) (drop-set-lt (n + 1) xs n x past)

module _ {X : Type 0} (xs : List X) (n i : ℕ) (low : i < n) (fits : n ≤ length xs) where
  -- turned by one, the part from i on has its first element at the end
  pub remove_turns : (part : List X) → part ≡ drop 1 (take (n - i) (drop i xs)) ++ take 1 (take (n - i) (drop i xs)) → put_mid i (n - i) xs part ≡ remove (take n xs) i ++ (take 1 (drop i xs) ++ drop n xs)
  remove_turns part e =
      let behind : drop 1 (take (n - i) (drop i xs)) ≡ drop (suc i) (take n xs) =
      ap (drop 1) (between_is xs i n) ∙ drop-drop 1 i (take n xs) ∙ ap (λ k. drop k (take n xs)) (add-one i) in
      let one : 1 ≤ n - i = omega arith in
      let first : take 1 (take (n - i) (drop i xs)) ≡ take 1 (drop i xs) = take-take 1 (n - i) (drop i xs) one in
      let end : i + (n - i) ≡ n = omega arith in
      let upto : i ≤ n = omega arith in
      let moved = e ∙ ap (λ l. l ++ take 1 (take (n - i) (drop i xs))) behind ∙ ap (λ l. drop (suc i) (take n xs) ++ l) first in
      let b = drop (suc i) (take n xs) in
      let t = take 1 (drop i xs) in
      ap (λ l. take i xs ++ (l ++ post_of i (n - i) xs)) moved
      ∙ ap (λ l. take i xs ++ ((b ++ t) ++ l)) (drop-drop (n - i) i xs ∙ ap (λ k. drop k xs) end)
      ∙ ap (λ l. l ++ ((b ++ t) ++ drop n xs)) (sym (take-take i n xs upto))
      ∙ ap (λ l. take i (take n xs) ++ l) (append_assoc b t (drop n xs))
      ∙ sym (append_assoc (take i (take n xs)) b (t ++ drop n xs))

-- an edit of a front of the places is one of all places
module _ {X : Type 0} (xs : List X) (u n i : ℕ) (x : X) (within : u ≤ length xs) where
  pub insert_in_front : (after : List X) (r : Result (Unit {0}) EditError) → r ≡ insert_at_answer n (length (take u xs)) i → after ≡ if_done r (insert (take n (take u xs)) i x ++ drop (n + 1) (take u xs)) (take u xs) → after ++ drop u xs ≡ if_done r (insert (take n xs) i x ++ drop (n + 1) xs) xs
  insert_in_front after (Err refused) told put = ap (λ l. l ++ drop u xs) put ∙ take-append-drop u xs
  insert_in_front after (Ok done) told put =
      let fit = insert_fits n (length (take u xs)) i told in
      let long : length (take u xs) ≡ u = omega (arith, length-take u xs) in
      let low : n ≤ u = omega arith in
      let reach : n + 1 ≤ length (take u xs) = omega arith in
      ap (λ l. l ++ drop u xs) put
      ∙ ap (λ l. (insert l i x ++ drop (n + 1) (take u xs)) ++ drop u xs) (take-take n u xs low)
      ∙ append_assoc (insert (take n xs) i x) (drop (n + 1) (take u xs)) (drop u xs)
      ∙ ap (λ l. insert (take n xs) i x ++ l) (sym (drop-append-le (n + 1) (take u xs) (drop u xs) reach) ∙ ap (drop (n + 1)) (take-append-drop u xs))

  pub answer_in_front : (room : ℕ) (r : Result (Unit {0}) EditError) → u ≡ room → r ≡ insert_at_answer n (length (take u xs)) i → r ≡ insert_at_answer n room i
  answer_in_front room r same told = told ∙ ap (λ k. insert_at_answer n k i) (omega (arith, length-take u xs))
