-- What a filter is, seen over the clause memory that it lies in.
use Rattle.std.specs.Prelude.{ℕ, ◌-◌, min, List, [], map, length, take, Ok, Err, Result, slice_index_or, slice_set}
use Rattle.family.specs.declared.clauses.Clause.{Clause}
use Rattle.fields.specs.declared.faults.Fault.{Fault}
use Rattle.filterfile.specs.Files.{usable_places, places_after}
use Rattle.filterfile.specs.WrittenFiles.{file_bytes}

-- the clauses in their order, the default, and the number of places of the memory
pub record View (R A : Type 0) : Type 0 where
  pub clauses : List (Clause R A)
  pub default : A
  pub room : ℕ

module _ {R A : Type 0} where
  -- the default stands in the last place; memory without a place has the default reject
  abbrev pub default_in : A → List (Clause R A) → A
  default_in reject places = slice_index_or (map (λ c. c.action) places) (length places - 1) reject

  -- the clauses stand at the front, as many as are counted and as are usable
  abbrev pub clauses_in : List (Clause R A) → ℕ → List (Clause R A)
  clauses_in places count = take (min count (usable_places (length places))) places

  abbrev pub view_of : A → List (Clause R A) → ℕ → View R A
  view_of reject places count = record { clauses = clauses_in places count; default = default_in reject places; room = length places }

  -- an empty filter with default reject
  abbrev pub empty_view : A → ℕ → View R A
  empty_view reject room = record { clauses = []; default = reject; room = room }

  -- the filter after a load: the file's, or as it was
  abbrev pub loaded_view : View R A → Result (List (Clause R A) × A) Fault → View R A
  loaded_view v (Ok p) = record { clauses = p.0; default = p.1; room = v.room }
  loaded_view v (Err fault) = v

  -- memory with a default in its last place, where it has one
  abbrev pub with_default : R → List (Clause R A) → A → List (Clause R A)
  with_default whole places action = slice_set places (length places - 1) (record { region = whole; action = action })

  -- memory after a load
  abbrev pub loaded_places : R → List (Clause R A) → Result (List (Clause R A) × A) Fault → List (Clause R A)
  loaded_places whole places (Ok p) = with_default whole (places_after places (Ok p)) p.1
  loaded_places whole places (Err fault) = places

-- what a load answers
abbrev pub load_answer : {X : Type 0} → Result X Fault → Result (Unit {0}) Fault
load_answer (Ok x) = Ok tt
load_answer (Err fault) = Err fault

-- the file of a filter, as it is written
abbrev pub file_of_view : {R A : Type 0} → (R → List ℕ) → (A → List ℕ) → ℕ → View R A → List ℕ
file_of_view region_bytes action_bytes code v = file_bytes region_bytes action_bytes code v.clauses v.default
