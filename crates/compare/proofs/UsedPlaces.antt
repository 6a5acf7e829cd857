-- The region list written over the first of the region places, which are lent for it.
use Rattle.std.proofs.Common.{◌≡◌, ℕ, ◌<◌, ◌≤◌, List, ◌++◌, length, take, drop, Some, None, sym, ap, ◌∙◌, append_assoc, arith, take-append-drop, length-take}
use Rattle.std.proofs.lemmas.List.{take_all, take_at, drop-append-le}
use Rattle.compare.specs.Compared.{front_of}
use Rattle.compare.specs.Written.{Written}

module _ {X : Type 0} (old list part : List X) (n : ℕ) (within : n ≤ length old) where
  lent_length : length (take n old) ≡ n
  lent_length = omega (arith, length-take n old)

  -- the places of the part that were not reached, and those behind it
  rest : (k : ℕ) → k ≤ n → drop k (take n old) ++ drop n old ≡ drop k old
  rest k low = sym (drop-append-le k (take n old) (drop n old) (omega (arith, lent_length))) ∙ ap (drop k) (take-append-drop n old)

  pub too_many : Written (take n old) list None part → n < length list
  too_many w = omega (arith, w.0, lent_length)

  pub front_full : Written (take n old) list None part → part ++ drop n old ≡ front_of n list old
  front_full w =
      let size : length (take n list) ≡ n = omega (arith, length-take n list, too_many w) in
      ap (λ l. l ++ drop n old) (w.1 ∙ ap (λ k. take k list) lent_length) ∙ ap (λ k. take n list ++ drop k old) (sym size)

  module _ (count : ℕ) (w : Written (take n old) list (Some count) part) where
    pub few_enough : length list ≤ n
    few_enough = omega (arith, w.0, w.1, lent_length)

    written_out : part ++ drop n old ≡ list ++ drop (length list) old
    written_out =
        ap (λ l. l ++ drop n old) w.2 ∙ append_assoc list (drop count (take n old)) (drop n old)
        ∙ ap (λ l. list ++ l) (rest count (omega (arith, w.0, few_enough))) ∙ ap (λ k. list ++ drop k old) w.0

    pub front_whole : part ++ drop n old ≡ front_of n list old
    front_whole = written_out ∙ sym (ap (λ l. l ++ drop (length l) old) (take_all n list few_enough))

    -- what stands at the front is the list
    pub list_read : take count (part ++ drop n old) ≡ list
    list_read = ap (take count) written_out ∙ take_at list (drop (length list) old) count (sym w.0)
