-- A whole file as it is written, and that writing and reading a file undo each other.
use Rattle.std.specs.Prelude.{◌≡◌, ℕ, ◌<◌, ◌≤◌, cond, List, [], ◌∷◌, ◌++◌, length, Ok, Err, Result, nat_le, nat_lt}
use Rattle.std.specs.List.{flat_map, All}
use Rattle.buffers.specs.Buffers.{written}
use Rattle.family.specs.declared.clauses.Clause.{Clause}
use Rattle.fields.specs.Fields.{Octets}
use Rattle.fields.specs.Reading.{Read}
use Rattle.filterfile.specs.declared.writing.WriteError.{WriteError}
use Rattle.filterfile.specs.declared.writing.WriteError.TheVariants.{CountAboveLimit, BufferTooShort}
use Rattle.filterfile.specs.Files.{file_of}

abbrev pub number_of : WriteError → ℕ
number_of CountAboveLimit = 14
number_of BufferTooShort = 19

-- a file is answered by its length, where the buffer holds it
abbrev pub answer_in : List ℕ → List ℕ → Result ℕ WriteError
answer_in buffer file = cond (nat_le (length file) (length buffer)) (Ok (length file)) (Err BufferTooShort)

-- a file has at most 64 clauses
abbrev pub write_answer : ℕ → List ℕ → List ℕ → Result ℕ WriteError
write_answer count buffer file = cond (nat_lt 64 count) (Err CountAboveLimit) (answer_in buffer file)

abbrev pub written_file : ℕ → List ℕ → List ℕ → List ℕ
written_file count buffer file = cond (nat_lt 64 count) buffer (written buffer file)

module _ {R A : Type 0} (region_bytes : R → List ℕ) (action_bytes : A → List ℕ) where
  abbrev pub clause_bytes : Clause R A → List ℕ
  clause_bytes c = region_bytes c.region ++ action_bytes c.action

  -- the family code, the number of clauses, the clauses one behind the other, the default
  abbrev pub file_bytes : ℕ → List (Clause R A) → A → List ℕ
  file_bytes code clauses default =
      (code ∷ []) ++ (length clauses ∷ []) ++ flat_map clause_bytes clauses ++ action_bytes default

  -- all bytes that are read as these clauses and this default are those that are written of them
  abbrev pub WrittenBack : (List ℕ → Read R) → (List ℕ → Read A) → ℕ → List (Clause R A) → A → Type 0
  WrittenBack region_of action_of code clauses default =
      (memory : ℕ) (bytes : List ℕ) → Octets bytes → file_of region_of action_of code memory bytes ≡ Ok (clauses, default) → bytes ≡ file_bytes code clauses default

  -- what is written is read as the same clauses and default, wherever there are places enough
  abbrev pub ReadBack : (List ℕ → Read R) → (List ℕ → Read A) → ℕ → List (Clause R A) → A → Type 0
  ReadBack region_of action_of code clauses default =
      (memory : ℕ) → length clauses ≤ 64 → length clauses < memory → file_of region_of action_of code memory (file_bytes code clauses default) ≡ Ok (clauses, default)

-- each clause's numbers fit their fields
abbrev pub ClausesFit : {R A : Type 0} → (R → Type 0) → (A → Type 0) → List (Clause R A) → Type 0
ClausesFit RegionFits ActionFits clauses = All (λ c. RegionFits c.region × ActionFits c.action) clauses
