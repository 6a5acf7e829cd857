-- Texts put into a buffer, one behind the other.
use Rattle.std.proofs.Common.{◌≡◌, ℕ, suc, ◌+◌, ◌^◌, ◌<◌, ◌≤◌, List, [], ◌∷◌, ◌++◌, length, take, drop, set, Some, sym, refl, ap, ◌∙◌, subst, inl, inr, add-zero, arith, length-append}
use Rattle.std.proofs.lemmas.List.{append_assoc, append-nil, drop_all, length_push, set_at, set_past, take_at}
use Rattle.std.proofs.lemmas.Bool.{cases_lt, le-leb}
use Rattle.buffers.specs.Buffers.{Placed, over, capped, written, written_length}

-- nothing changes behind the end
over-past : (o : List ℕ) (at : ℕ) (s : List ℕ) → length o ≤ at → over o at s ≡ o
over-past o at [] h = refl
over-past o at (b ∷ s) h = rw (set_past o at b h) (over-past o (at + 1) s (omega arith))

-- one text over the buffer and another behind it are both together over it
over_both : (o : List ℕ) (at : ℕ) (s t : List ℕ) → over (over o at s) (at + length s) t ≡ over o at (s ++ t)
over_both o at [] t = rw add-zero
over_both o at (b ∷ s) t =
    let e : at + suc (length s) ≡ at + 1 + length s = omega arith in
    rw e (over_both (set o at b) (at + 1) s t)

-- a place beyond 64 bits lies behind the end of every buffer
over-capped : (o : List ℕ) (n : ℕ) (t : List ℕ) → length o < 2 ^ 64 → over o (capped n) t ≡ over o n t
over-capped o n t h =
    elim (cases_lt n (2 ^ 64)) [
      | inl l ↦ let e : capped n ≡ n = omega arith in ap (λ k. over o k t) e
      | inr g ↦ over-past o (capped n) t (omega arith) ∙ sym (over-past o n t (omega arith))
    ]

pub placed_nothing : (o : List ℕ) (at : ℕ) → length o < 2 ^ 64 → at < 2 ^ 64 → Placed o at [] at o
placed_nothing o at h k = record { small = h; ends = omega arith; bytes = refl }

pub placed_byte : {o o' : List ℕ} {at at' b : ℕ} → length o < 2 ^ 64 → at' ≡ capped (at + 1) → o' ≡ set o at b → Placed o at (b ∷ []) at' o'
placed_byte h e w = record { small = h; ends = e; bytes = w }

-- two texts put one behind the other
infixl 60 ◌then◌
pub ◌then◌ : {o o' o'' : List ℕ} {at at' at'' : ℕ} {s t : List ℕ} → Placed o at s at' o' → Placed o' at' t at'' o'' → Placed o at (s ++ t) at'' o''
◌then◌ {o} {o'} {o''} {at} {at'} {at''} {s} {t} p q =
    record {
      small = p.small;
      ends = simp length-append (omega (arith, p.ends, q.ends));
      bytes = q.bytes ∙ rw (p.ends, over-capped o' (at + length s) t q.small, p.bytes) (over_both o at s t);
    }

-- equal texts
pub placed_same : {o o' : List ℕ} {at at' : ℕ} {s t : List ℕ} → s ≡ t → Placed o at s at' o' → Placed o at t at' o'
placed_same {o} {o'} {at} {at'} e p = subst (λ x. Placed o at x at' o') e p

-- a text behind others, in a buffer that holds it whole
over_behind : (p o s : List ℕ) → length s ≤ length o → over (p ++ o) (length p) s ≡ p ++ (s ++ drop (length s) o)
over_behind p o [] h = refl
over_behind p [] (b ∷ s) h = absurd (omega arith)
over_behind p (x ∷ o) (b ∷ s) h =
    rw (set_at p x o b (length p) refl, ← append_assoc p (b ∷ []) o, ← length_push p b)
    (over_behind (p ++ b ∷ []) o s (omega arith) ∙ append_assoc p (b ∷ []) (s ++ drop (length s) o))

-- a text at the front of a buffer that holds it whole
module _ {o o' : List ℕ} {n : ℕ} {s : List ℕ} (p : Placed o 0 s n o') (room : length s ≤ length o) where
  pub whole_length : n ≡ length s
  whole_length = omega (arith, p.ends, p.small)

  pub answered : Some n ≡ written_length o s
  answered = rw (le-leb (length s) (length o) room, whole_length)

  pub held : o' ≡ written o s
  held = rw (le-leb (length s) (length o) room) (p.bytes ∙ over_behind [] o s room)

-- a text that fills its buffer, as the front of a longer list
pub filled : {o o' : List ℕ} {n : ℕ} {s : List ℕ} (p : Placed o 0 s n o') (k : ℕ) (rest : List ℕ) → length o ≡ k → length s ≡ k → take k (o' ++ rest) ≡ s
filled {o} {o'} {n} {s} p k rest e f =
    let w : o' ≡ s =
    p.bytes ∙ over_behind [] o s (omega arith) ∙ ap (λ x. s ++ x) (drop_all (length s) o (omega arith)) ∙ append-nil s in
    rw w (take_at s rest k f)
