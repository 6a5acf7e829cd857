-- A file is read exactly when it is accepted.
use Rattle.std.proofs.Common.{◌≡◌, ℕ, zero, suc, ◌+◌, eqb, List, [], ◌∷◌, ◌++◌, length, take, drop, Ok, Err, Result, sym, refl, ap, ◌∙◌, subst, arith}
use Rattle.std.proofs.lemmas.List.{nil_from_length, take_at}
use Rattle.std.proofs.lemmas.Bool.{eqb-true}
use Rattle.family.specs.declared.clauses.Clause.{Clause}
use Rattle.fields.specs.declared.faults.Fault.{Fault}
use Rattle.fields.specs.declared.faults.Part.TheVariants.{Head, Clause as InClause, Default}
use Rattle.filterfile.specs.AcceptedFiles.{Laid, none, next, Accepted, Rightly}
use Rattle.filterfile.specs.Files.{head_of, in_part, clause_of, clauses_of, default_of, file_of, answer_of, places_after}
use Rattle.fields.specs.Reading.{Read}
use Rattle.filterfile.proofs.ClauseTurns.{clauses-count}
use Rattle.filterfile.proofs.Heads.{head_read, head-taken}
use Rattle.fields.proofs.Inversion.{both_steps, passed, never-read}
use Rattle.filterfile.proofs.Parted.{part_read}
use Rattle.fields.proofs.Seen.{same_parts}
use Rattle.filterfile.proofs.WholeFiles.{file-from}

module _ {R A : Type 0} (region_of : List ℕ → Read R) (action_of : List ℕ → Read A) where
  clause_laid : (bytes rest last : List ℕ) (clause : Clause R A) (clauses : List (Clause R A)) → clause_of region_of action_of bytes ≡ Ok (clause, rest) → Laid region_of action_of rest clauses last → Laid region_of action_of bytes (clause ∷ clauses) last
  clause_laid bytes rest last clause clauses read later =
      let region = both_steps (region_of bytes) _ _ read in
      let action = both_steps (action_of region.0.1) _ _ region.2 in
      let parts = same_parts action.2 in
      subst (λ c. Laid region_of action_of bytes (c ∷ clauses) last) parts.0
      (next region.1 action.1 (subst (λ b. Laid region_of action_of b clauses last) (sym parts.1) later))

  all_laid : (total count number : ℕ) (bytes : List ℕ) (clauses : List (Clause R A)) (last : List ℕ) → clauses_of region_of action_of total count number bytes ≡ Ok (clauses, last) → Laid region_of action_of bytes clauses last
  all_laid total zero number bytes clauses last same =
      let parts = same_parts same in
      subst (λ l. Laid region_of action_of bytes l last) parts.0
      (subst (λ b. Laid region_of action_of bytes [] b) parts.1 none)
  all_laid total (suc count) number bytes clauses last same =
      let first = both_steps (in_part total (InClause number) (clause_of region_of action_of bytes)) _ _ same in
      let later = both_steps (clauses_of region_of action_of total count (number + 1) first.0.1) _ _ first.2 in
      let parts = same_parts later.2 in
      let rest = all_laid total count (number + 1) first.0.1 later.0.0 later.0.1 later.1 in
      subst (λ l. Laid region_of action_of bytes l last) parts.0
      (clause_laid bytes first.0.1 last first.0.0 later.0.0 (part_read total (InClause number) _ _ first.1) (subst (λ b. Laid region_of action_of first.0.1 later.0.0 b) parts.1 rest))

  all-taken : {bytes last : List ℕ} {clauses : List (Clause R A)} → Laid region_of action_of bytes clauses last → (total number : ℕ) → clauses_of region_of action_of total (length clauses) number bytes ≡ Ok (clauses, last)
  all-taken none total number = refl
  all-taken (next region action later) total number = rw (region, action, all-taken later total (number + 1))

  default-laid : (total : ℕ) (bytes : List ℕ) (action : A) → default_of action_of total bytes ≡ Ok action → action_of bytes ≡ Ok (action, [])
  default-laid total bytes action same =
      let read = both_steps (in_part total Default (action_of bytes)) _ action same in
      let end = passed (eqb (length read.0.1) 0) _ _ action read.2 in
      let last : read.0.0 ≡ action = cc in
      let nothing : read.0.1 ≡ [] = nil_from_length read.0.1 (eqb-true (length read.0.1) 0 end.0) in
      part_read total Default (action_of bytes) read.0 read.1
      ∙ ap (λ a. Ok (a, read.0.1)) last ∙ ap (λ l. Ok (action, l)) nothing

  module _ (code memory : ℕ) (bytes : List ℕ) where
    accepted_from : (count : ℕ) (body rest : List ℕ) (clauses : List (Clause R A)) (action : A) → head_of code memory bytes ≡ Ok (count, body) → clauses_of region_of action_of (length bytes) count 0 body ≡ Ok (clauses, rest) → default_of action_of (length bytes) rest ≡ Ok action → Accepted region_of action_of code memory bytes clauses action
    accepted_from count body rest clauses action head read last =
        let size : length clauses ≡ count = clauses-count region_of action_of (length bytes) count 0 body clauses rest read in
        let told = head_read code memory bytes count body head in
        record {
          body = body;
          last = rest;
          head = told.bytes_are ∙ ap (λ n. code ∷ n ∷ body) (sym size);
          laid = all_laid (length bytes) count 0 body clauses rest read;
          default = default-laid (length bytes) rest action last;
          limit = omega arith;
          room = omega arith;
        }

    pub accepted_if_read : (clauses : List (Clause R A)) (action : A) → file_of region_of action_of code memory bytes ≡ Ok (clauses, action) → Accepted region_of action_of code memory bytes clauses action
    accepted_if_read clauses action same =
        let head = both_steps (in_part (length bytes) Head (head_of code memory bytes)) _ (clauses, action) same in
        let body = both_steps (clauses_of region_of action_of (length bytes) head.0.0 0 head.0.1) _ (clauses, action) head.2 in
        let last = both_steps (default_of action_of (length bytes) body.0.1) _ (clauses, action) body.2 in
        let both : ◌≡◌ {A = List (Clause R A) × A} (body.0.0, last.0) (clauses, action) = cc last.2 in
        let P : List (Clause R A) × A → Type 0 = λ p. Accepted region_of action_of code memory bytes p.0 p.1 in
        subst P both
        (accepted_from head.0.0 head.0.1 body.0.1 body.0.0 last.0 (part_read (length bytes) Head (head_of code memory bytes) head.0 head.1) body.1 last.1)

    pub read_if_accepted : (clauses : List (Clause R A)) (action : A) → Accepted region_of action_of code memory bytes clauses action → file_of region_of action_of code memory bytes ≡ Ok (clauses, action)
    read_if_accepted clauses action file =
        file-from region_of action_of code memory bytes (length clauses) file.body file.last action clauses
        (ap (head_of code memory) file.head ∙ head-taken code memory (length clauses) file.body file.limit file.room)
        (all-taken file.laid (length bytes) 0) (rw file.default)

    rightly_answered : (r : Result (ℕ × A) Fault) (entry places : List (Clause R A)) → r ≡ answer_of (file_of region_of action_of code memory bytes) → places ≡ places_after entry (file_of region_of action_of code memory bytes) → Rightly region_of action_of code memory bytes r places
    rightly_answered r entry places answer after = told (file_of region_of action_of code memory bytes) refl
      where
        told : (file : Result (List (Clause R A) × A) Fault) → file_of region_of action_of code memory bytes ≡ file → Rightly region_of action_of code memory bytes r places
        told (Ok p) is =
            let filled : places ≡ p.0 ++ drop (length p.0) entry = after ∙ ap (places_after entry) is in
            let front : take (length p.0) places ≡ p.0 = ap (take (length p.0)) filled ∙ take_at p.0 _ _ refl in
            subst (λ a. Rightly region_of action_of code memory bytes a places) (sym (answer ∙ ap answer_of is))
            (subst (λ l. Accepted region_of action_of code memory bytes l p.1) (sym front) (accepted_if_read p.0 p.1 is))
        told (Err fault) is =
            subst (λ a. Rightly region_of action_of code memory bytes a places) (sym (answer ∙ ap answer_of is))
            (λ clauses action file. never-read (sym is ∙ read_if_accepted clauses action file))

    -- what reading a file promises, from its answer and the places after it
    pub settled : (r : Result (ℕ × A) Fault) (entry filled : List (Clause R A)) → r ≡ answer_of (file_of region_of action_of code memory bytes) → filled ≡ places_after entry (file_of region_of action_of code memory bytes) → record { answer : r ≡ answer_of (file_of region_of action_of code memory bytes); places : filled ≡ places_after entry (file_of region_of action_of code memory bytes); file : Rightly region_of action_of code memory bytes r filled }
    settled r entry filled answer after =
        record { answer = answer; places = after; file = rightly_answered r entry filled answer after }
