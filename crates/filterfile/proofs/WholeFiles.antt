-- A file that is read: from its head, its clauses and its default.
use Rattle.std.proofs.Common.{◌≡◌, ℕ, List, length, ◌++◌, drop, Ok, Err, Result, sym, ap, ◌∙◌}
use Rattle.family.specs.declared.clauses.Clause.{Clause}
use Rattle.fields.specs.declared.faults.Fault.{Fault}
use Rattle.filterfile.specs.Files.{head_of, clauses_of, behind_of, default_of, file_of, answer_of, places_after}
use Rattle.fields.specs.Reading.{Read}
use Rattle.fields.proofs.Inversion.{never-read}
use Rattle.filterfile.proofs.ClauseTurns.{clauses-count}

-- what was read, where the bytes behind it are known
behind_read : {X : Type 0} (r : Result (X × List ℕ) Fault) (rest : List ℕ) → behind_of r ≡ Ok rest → (x : X) × (r ≡ Ok (x, rest))
behind_read (Ok p) rest same = let end : p.1 ≡ rest = cc in (p.0, ap (λ b. Ok (p.0, b)) end)
behind_read (Err fault) rest same = absurd (never-read same)

module _ {R A : Type 0} (region_of : List ℕ → Read R) (action_of : List ℕ → Read A) (code memory : ℕ) (bytes : List ℕ) (count : ℕ) (body rest : List ℕ) (action : A) where
  pub file-from : (clauses : List (Clause R A)) → head_of code memory bytes ≡ Ok (count, body) → clauses_of region_of action_of (length bytes) count 0 body ≡ Ok (clauses, rest) → default_of action_of (length bytes) rest ≡ Ok action → file_of region_of action_of code memory bytes ≡ Ok (clauses, action)
  file-from clauses head read last = rw (head, read, last)

  -- the clauses of a file that is read, as many as its count says
  pub record WholeFile : Type 0 where
    pub clauses : List (Clause R A)
    pub read : clauses_of region_of action_of (length bytes) count 0 body ≡ Ok (clauses, rest)
    pub size : length clauses ≡ count
    pub answer : Ok (count, action) ≡ answer_of (file_of region_of action_of code memory bytes)
    pub places : (entry : List (Clause R A)) → clauses ++ drop (length clauses) entry ≡ places_after entry (file_of region_of action_of code memory bytes)

  pub whole_file : head_of code memory bytes ≡ Ok (count, body) → behind_of (clauses_of region_of action_of (length bytes) count 0 body) ≡ Ok rest → default_of action_of (length bytes) rest ≡ Ok action → WholeFile
  whole_file head clauses last =
      let all = behind_read (clauses_of region_of action_of (length bytes) count 0 body) rest clauses in
      let size = clauses-count region_of action_of (length bytes) count 0 body all.0 rest all.1 in
      let file = file-from all.0 head all.1 last in
      record {
        clauses = all.0;
        read = all.1;
        size = size;
        answer = ap (λ n. Ok (n, action)) (sym size) ∙ ap answer_of (sym file);
        places = λ entry. ap (places_after entry) (sym file);
      }
