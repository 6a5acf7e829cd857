-- Texts put into an output, one behind the other.
use Rattle.std.proofs.Common.{◌≡◌, ℕ, List, ◌++◌, ◌∙◌, subst}
use Rattle.buffers.specs.Buffers.{Placed}
use Rattle.buffers.specs.Outputs.{Puts}
use Rattle.buffers.specs.declared.outputs.Output.{Output}
use Rattle.buffers.proofs.Placing as placing

-- two texts put one behind the other
infixl 60 ◌then◌
pub ◌then◌ : {a b c : Output} {s t : List ℕ} → Puts a s b → Puts b t c → Puts a (s ++ t) c
◌then◌ p q = record { placed = placing.◌then◌ p.placed q.placed; lender = q.lender ∙ p.lender }

-- equal texts
pub same_text : {a b : Output} {s t : List ℕ} → s ≡ t → Puts a s b → Puts a t b
same_text {a} {b} e p = subst (λ x. Puts a x b) e p

-- a text put into a new output over a buffer
pub whole : {o o' s : List ℕ} {n : ℕ} (first last : Output) → first.place ≡ 0 → first.bytes.now ≡ o → Puts first s last → n ≡ last.place → o' ≡ last.bytes.now → Placed o 0 s n o'
whole {o} {o'} {s} {n} first last a b p e f = rw (f, e, ← a, ← b) p.placed
