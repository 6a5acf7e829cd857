-- A listing written to a buffer, of which the first 65,535 bytes at most are lent for it.
use Rattle.std.proofs.Common.{◌≡◌, ℕ, ◌≤◌, min, Bool, true, false, cond, leb, List, ◌++◌, length, take, drop, Some, None, Ok, Err, Result, sym, refl, ap, ◌∙◌, ⊎_elim, append_assoc, arith, take-append-drop, length-take}
use Rattle.std.specs.Option.{ok_or}
use Rattle.std.proofs.lemmas.List.{drop-append-le}
use Rattle.std.proofs.lemmas.Bool.{cases_Bool, leb-true, cond-true, cond-false}
use Rattle.buffers.specs.Buffers.{written, written_length}
use Rattle.files.specs.declared.refusals.Refusal.{Refusal}
use Rattle.files.specs.declared.refusals.Unwritten.{Unwritten}
use Rattle.files.specs.declared.refusals.Unwritten.TheVariants.{TooLong}
use Rattle.files.specs.Written.{has_room, written_answer, buffer_after}

or_too_long : (b : Bool) (n : ℕ) → ok_or (cond b (Some n) None) TooLong ≡ cond b (Ok n) (Err TooLong)
or_too_long true n = refl
or_too_long false n = refl

module _ (buffer text : List ℕ) (n : ℕ) (used : n ≡ min 65535 (length buffer)) where
  abbrev lent : List ℕ
  lent = take n buffer

  same_test : leb (length text) (length lent) ≡ has_room buffer text
  same_test = ap (leb (length text)) (omega (arith, length-take n buffer, used))

  pub answer : ok_or (written_length lent text) TooLong ≡ written_answer buffer (Ok text)
  answer = ap (λ b. ok_or (cond b (Some (length text)) None) TooLong) same_test ∙ or_too_long (has_room buffer text) (length text)

  -- the part that was lent is back in its place
  pub back : (after : List ℕ) → after ≡ written lent text → after ++ drop n buffer ≡ buffer_after buffer (Ok text)
  back after e =
      let held : after ≡ cond (has_room buffer text) (text ++ drop (length text) lent) lent =
      e ∙ ap (λ b. cond b (text ++ drop (length text) lent) lent) same_test in
      ⊎_elim
      (λ yes.
      let within : length text ≤ length lent = omega (arith, leb-true _ _ yes, length-take n buffer, used) in
      ap (λ l. l ++ drop n buffer) (held ∙ cond-true _ _ _ yes)
      ∙ append_assoc text _ _
      ∙ ap (λ l. text ++ l) (sym (drop-append-le (length text) lent (drop n buffer) within) ∙ ap (drop (length text)) (take-append-drop n buffer))
      ∙ sym (cond-true _ _ _ yes))
      (λ no.
      ap (λ l. l ++ drop n buffer) (held ∙ cond-false _ _ _ no)
      ∙ take-append-drop n buffer
      ∙ sym (cond-false _ _ _ no))
      (cases_Bool (has_room buffer text))

-- a length that is answered is short
below : (b : Bool) (k n : ℕ) → Ok k ≡ cond {A = Result ℕ Unwritten} b (Ok n) (Err TooLong) → (b ≡ true) × (k ≡ n)
below true k n e = (refl, cc)
below false k n e = let z : ◌≡◌ {A = ℕ} 0 1 = cc in absurd (omega arith)

pub short : (buffer : List ℕ) (r : Result (List ℕ) Refusal) (k : ℕ) → Ok k ≡ written_answer buffer r → k ≤ 65535
short buffer (Ok text) k e =
    let b = below (has_room buffer text) k (length text) e in
    omega (arith, leb-true _ _ b.0, b.1)
short buffer (Err refusal) k e = let z : ◌≡◌ {A = ℕ} 0 1 = cc in absurd (omega arith)
