-- The clauses of a file, one turn at a time: the next clause, then those behind it.
use Rattle.std.proofs.Common.{◌≡◌, ℕ, zero, suc, ◌+◌, ◌-◌, ◌<◌, List, ◌∷◌, length, Ok, Err, Result, sym, refl, ap, ◌∙◌, arith}
use Rattle.family.specs.declared.clauses.Clause.{Clause}
use Rattle.fields.specs.declared.faults.Fault.{Fault}
use Rattle.fields.specs.declared.faults.Part.TheVariants.{Clause as InClause}
use Rattle.filterfile.specs.Files.{in_part, clause_of, clauses_of, behind_of}
use Rattle.fields.specs.Reading.{Read, ◌>>=◌}
use Rattle.fields.proofs.Inversion.{never-read}
use Rattle.fields.proofs.Seen.{same_parts}

module _ {R A : Type 0} (region_of : List ℕ → Read R) (action_of : List ℕ → Read A) (total : ℕ) where
  abbrev pub Clauses : Type 0
  Clauses = Result (List (Clause R A) × List ℕ) Fault

  -- a clause in front of the later ones
  abbrev pub with_first : Clause R A → Clauses → Clauses
  with_first clause later = ◌>>=◌ later (λ p. Ok (clause ∷ p.0, p.1))

  behind_first : (clause : Clause R A) (later : Clauses) → behind_of (with_first clause later) ≡ behind_of later
  behind_first clause (Ok p) = refl
  behind_first clause (Err fault) = refl

  -- where all clauses are read, so are those behind the first
  others : (clause : Clause R A) (later : Clauses) (all : List (Clause R A)) (behind : List ℕ) → with_first clause later ≡ Ok (all, behind) → (rest : List (Clause R A)) × (later ≡ Ok (rest, behind)) × (all ≡ clause ∷ rest)
  others clause (Ok p) all behind same =
      let parts = same_parts same in (p.0, ap (λ b. Ok (p.0, b)) parts.1, sym parts.0)
  others clause (Err fault) all behind same = absurd (never-read same)

  -- as many clauses are read as are asked for
  pub clauses-count : (count number : ℕ) (bytes : List ℕ) (all : List (Clause R A)) (behind : List ℕ) → clauses_of region_of action_of total count number bytes ≡ Ok (all, behind) → length all ≡ count
  clauses-count zero number bytes all behind same = sym (ap length (same_parts same).0)
  clauses-count (suc count) number bytes all behind same =
      first (clause_of region_of action_of bytes) refl (clauses-count count (number + 1))
    where
      first : (r : Read (Clause R A)) → clause_of region_of action_of bytes ≡ r → ((rest : List ℕ) (later : List (Clause R A)) (end : List ℕ) → clauses_of region_of action_of total count (number + 1) rest ≡ Ok (later, end) → length later ≡ count) → length all ≡ suc count
      first (Ok p) read counted =
          let rest = others p.0 (clauses_of region_of action_of total count (number + 1) p.1) all behind (rw read at same) in
          ap length rest.2 ∙ ap suc (counted p.1 rest.0 behind rest.1)
      first (Err fault) read counted = absurd (never-read (rw read at same))

  module _ (count number : ℕ) (more : number < count) (bytes : List ℕ) where
    one_ahead : clauses_of region_of action_of total (count - number) number bytes ≡ clauses_of region_of action_of total (suc (count - (number + 1))) number bytes
    one_ahead =
        let less : count - number ≡ suc (count - (number + 1)) = omega arith in
        ap (λ n. clauses_of region_of action_of total n number bytes) less

    module _ (clause : Clause R A) (rest : List ℕ) (read : in_part total (InClause number) (clause_of region_of action_of bytes) ≡ Ok (clause, rest)) where
      pub next_clause : clauses_of region_of action_of total (count - number) number bytes ≡ with_first clause (clauses_of region_of action_of total (count - (number + 1)) (number + 1) rest)
      next_clause = one_ahead ∙ rw read

      -- the later clauses end where these do
      pub ends-next : (ends : Result (List ℕ) Fault) → behind_of (clauses_of region_of action_of total (count - number) number bytes) ≡ ends → behind_of (clauses_of region_of action_of total (count - (number + 1)) (number + 1) rest) ≡ ends
      ends-next ends same = sym (ap behind_of next_clause ∙ behind_first clause _) ∙ same
