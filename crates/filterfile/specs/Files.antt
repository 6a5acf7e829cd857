-- A whole file: a family code, a count of clauses, the clauses, and the default action.
use Rattle.std.specs.Prelude.{ℕ, zero, suc, ◌+◌, ◌-◌, min, Bool, cond, ◌||◌, List, [], ◌∷◌, ◌++◌, length, drop, Ok, Err, Result, ◌==◌, nat_lt}
use Rattle.family.specs.declared.clauses.Clause.{Clause}
use Rattle.fields.specs.declared.faults.Fault.{Fault}
use Rattle.fields.specs.declared.faults.FaultKind.TheVariants.{OtherFamily, CountAboveLimit, NoPlaces, SpareBytes}
use Rattle.fields.specs.declared.faults.Part.{Part}
use Rattle.fields.specs.declared.faults.Part.TheVariants.{Head, Clause as InClause, Default}
use Rattle.fields.specs.Faults.{fault_at, fault_in}
use Rattle.fields.specs.Fields.{field_of}
use Rattle.fields.specs.Reading.{Read, ◌>>=◌}

-- of so many places one is kept for the default, and of the others at most 64 are used
abbrev pub usable_places : ℕ → ℕ
usable_places memory = min 64 (memory - 1)

-- whether a file's clauses have no room in so many places
abbrev pub lacks_places : ℕ → ℕ → Bool
lacks_places memory count = memory == 0 || nat_lt (usable_places memory) count

-- the number of clauses, behind the family code
abbrev pub head_of : ℕ → ℕ → List ℕ → Read ℕ
head_of code memory bytes = do
  (family, rest) ← field_of 1 bytes
  cond (family == code) (do
    (count, body) ← field_of 1 rest
    cond (nat_lt 64 count) (Err (fault_at CountAboveLimit rest))
        (cond (lacks_places memory count) (Err (fault_at NoPlaces rest)) (Ok (count, body))))
      (Err (fault_at OtherFamily bytes))

-- a reading that belongs to a part of a file of so many bytes
abbrev pub in_part : {X : Type 0} → ℕ → Part → Read X → Result (X × List ℕ) Fault
in_part total part (Ok p) = Ok p
in_part total part (Err fault) = Err (fault_in total part fault)

-- the bytes behind what was read
abbrev pub behind_of : {X : Type 0} → Result (X × List ℕ) Fault → Result (List ℕ) Fault
behind_of (Ok p) = Ok p.1
behind_of (Err fault) = Err fault

-- the default action, behind which no byte stands
abbrev pub default_of : {A : Type 0} → (List ℕ → Read A) → ℕ → List ℕ → Result A Fault
default_of action_of total bytes = do
  (action, spare) ← in_part total Default (action_of bytes)
  cond (length spare == 0) (Ok action) (Err (fault_in total Default (fault_at SpareBytes spare)))

module _ {R A : Type 0} (region_of : List ℕ → Read R) (action_of : List ℕ → Read A) where
  abbrev pub clause_of : List ℕ → Read (Clause R A)
  clause_of bytes = do
    (region, rest) ← region_of bytes
    (action, behind) ← action_of rest
    Ok (record { region = region; action = action }, behind)

  -- so many clauses, the first of which has the given number
  abbrev pub clauses_of : ℕ → ℕ → ℕ → List ℕ → Result (List (Clause R A) × List ℕ) Fault
  clauses_of total zero number bytes = Ok ([], bytes)
  clauses_of total (suc count) number bytes = do
    (first, rest) ← in_part total (InClause number) (clause_of bytes)
    (others, behind) ← clauses_of total count (number + 1) rest
    Ok (first ∷ others, behind)

  -- the clauses and the default of a file of the family of this code, read where there are so many places
  abbrev pub file_of : ℕ → ℕ → List ℕ → Result (List (Clause R A) × A) Fault
  file_of code memory bytes = do
    (count, body) ← in_part (length bytes) Head (head_of code memory bytes)
    (clauses, rest) ← clauses_of (length bytes) count 0 body
    action ← default_of action_of (length bytes) rest
    Ok (clauses, action)

-- the number of clauses and the default
abbrev pub answer_of : {C A : Type 0} → Result (List C × A) Fault → Result (ℕ × A) Fault
answer_of (Ok p) = Ok (length p.0, p.1)
answer_of (Err fault) = Err fault

-- the clauses stand at the front of the places, and a fault leaves the places as they were
abbrev pub places_after : {C A : Type 0} → List C → Result (List C × A) Fault → List C
places_after places (Ok p) = p.0 ++ drop (length p.0) places
places_after places (Err fault) = places

-- what a function holds before and after it is handed these clauses of a file, each once and in their order, with its number in the file;
-- the first has the given number, and `step` tells what one call makes of what the function holds
pub data HandedOver {F C : Type 0} (step : F → ℕ → C → Unit {0} → F → Type 0) : ℕ → F → List C → F → Type 0 where
  none : {number : ℕ} {state : F} → HandedOver step number state [] state
  next : {number : ℕ} {before between after : F} {clause : C} {clauses : List C} → step before number clause tt between → HandedOver step (number + 1) between clauses after → HandedOver step number before (clause ∷ clauses) after
