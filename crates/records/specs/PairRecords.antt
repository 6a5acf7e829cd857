-- The record of a pair: the records of its two parts, one behind the other.
use Rattle.std.specs.Prelude.{◌≡◌, ℕ, List, ◌++◌, Ok}
use Rattle.std.proofs.Common.{sym, ap, ◌∙◌}
use Rattle.std.proofs.lemmas.List.{append_assoc}
use Rattle.supplied.specs.Pairs.{pair}
use Rattle.supplied.specs.declared.pairs.Pair.{Pair}
use Rattle.fields.specs.Fields.{Octets}
use Rattle.fields.specs.Reading.{Read, ◌>>=◌}
use Rattle.fields.specs.Undoing.{RecordLaws}
use Rattle.fields.proofs.Inversion.{both_steps}
use Rattle.fields.proofs.NumberBytes.{octets_behind}
use Rattle.fields.proofs.Seen.{same_parts}

module _ {R S : Type 0} where
  abbrev pub pair_reads : (List ℕ → Read R) → (List ℕ → Read S) → List ℕ → Read (Pair R S)
  pair_reads first_of second_of bytes = do
    (first, rest) ← first_of bytes
    (second, behind) ← second_of rest
    Ok (pair first second, behind)

  abbrev pub pair_bytes : (R → List ℕ) → (S → List ℕ) → Pair R S → List ℕ
  pair_bytes first_bytes second_bytes p = first_bytes p.first ++ second_bytes p.second

  abbrev pub PairFits : (R → Type 0) → (S → Type 0) → Pair R S → Type 0
  PairFits FirstFits SecondFits p = FirstFits p.first × SecondFits p.second

  module _ {FirstFits : R → Type 0} {SecondFits : S → Type 0} {first_of : List ℕ → Read R} {second_of : List ℕ → Read S} {first_bytes : R → List ℕ} {second_bytes : S → List ℕ} (first : RecordLaws FirstFits first_of first_bytes) (second : RecordLaws SecondFits second_of second_bytes) where
    back : (p : Pair R S) → PairFits FirstFits SecondFits p → (rest : List ℕ) → pair_reads first_of second_of (pair_bytes first_bytes second_bytes p ++ rest) ≡ Ok (p, rest)
    back p fit rest =
        rw
        (append_assoc (first_bytes p.first) (second_bytes p.second) rest, first.read_back p.first fit.0 (second_bytes p.second ++ rest), second.read_back p.second fit.1 rest)

    kept : (bytes : List ℕ) → Octets bytes → (p : Pair R S) (rest : List ℕ) → pair_reads first_of second_of bytes ≡ Ok (p, rest) → bytes ≡ pair_bytes first_bytes second_bytes p ++ rest
    kept bytes all p rest same =
        let one = both_steps (first_of bytes) _ (p, rest) same in
        let two = both_steps (second_of one.0.1) _ (p, rest) one.2 in
        let parts = same_parts two.2 in
        let r = one.0.0 in
        let s = two.0.0 in
        let front : bytes ≡ first_bytes r ++ one.0.1 = first.written_back bytes all r one.0.1 one.1 in
        let behind : one.0.1 ≡ second_bytes s ++ two.0.1 =
        second.written_back one.0.1 (octets_behind (first_bytes r) one.0.1 (rw front at all)) s two.0.1 two.1 in
        front ∙ ap (λ l. first_bytes r ++ l) behind ∙ sym (append_assoc (first_bytes r) (second_bytes s) two.0.1)
        ∙ ap (λ l. (first_bytes r ++ second_bytes s) ++ l) parts.1
        ∙ ap (λ q. pair_bytes first_bytes second_bytes q ++ rest) parts.0

    pub pair_undoing : RecordLaws (PairFits FirstFits SecondFits) (pair_reads first_of second_of) (pair_bytes first_bytes second_bytes)
    pair_undoing = record { read_back = back; written_back = kept }
