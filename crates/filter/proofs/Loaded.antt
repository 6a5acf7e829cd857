-- A file that is read has room: its clauses are at most the usable places, and there is a place for the default.
use Rattle.std.proofs.Common.{◌≡◌, ℕ, ◌<◌, ◌≤◌, List, length, Ok, Err, Result, sym, ap, ◌∙◌, arith}
use Rattle.family.specs.declared.clauses.Clause.{Clause}
use Rattle.fields.specs.declared.faults.Fault.{Fault}
use Rattle.fields.specs.Reading.{Read}
use Rattle.fields.proofs.Inversion.{never-read, same-value}
use Rattle.filterfile.specs.Files.{usable_places, file_of, answer_of, places_after}
use Rattle.filterfile.proofs.Accepting.{accepted_if_read}
use Rattle.filter.specs.Views.{view_of, with_default, loaded_view}
use Rattle.filter.proofs.Viewed.{refilled}

module _ {R A : Type 0} (region_of : List ℕ → Read R) (action_of : List ℕ → Read A) (code memory : ℕ) (bytes : List ℕ) (clauses : List (Clause R A)) (action : A) where
  pub file-fits : file_of region_of action_of code memory bytes ≡ Ok (clauses, action) → (0 < memory) × (length clauses ≤ usable_places memory)
  file-fits read =
      let file = accepted_if_read region_of action_of code memory bytes clauses action read in
      let limit = file.limit in
      let room = file.room in
      (omega arith, omega arith)

-- a file by what reading it answered
pub file-read : {C A : Type 0} (r : Result (List C × A) Fault) (p : ℕ × A) → answer_of r ≡ Ok p → (clauses : List C) × (r ≡ Ok (clauses, p.1)) × (length clauses ≡ p.0)
file-read {C} {A} (Ok q) p e =
    let told : ℕ × A = (length q.0, q.1) in
    let same = same-value told p e in
    (q.0, ap (λ a. Ok (q.0, a)) (ap (λ x. x.1) same), ap (λ x. x.0) same)
file-read (Err fault) p e = absurd (never-read e)

pub file-refused : {C A : Type 0} (r : Result (List C × A) Fault) (fault : Fault) → answer_of r ≡ Err fault → r ≡ Err fault
file-refused (Ok p) fault e = let z : ◌≡◌ {A = ℕ} 0 1 = cc in absurd (omega arith)
file-refused (Err other) fault e = let same : other ≡ fault = cc in ap Err same

-- the view of the places after a load
pub view-loaded : {R A : Type 0} (region_of : List ℕ → Read R) (action_of : List ℕ → Read A) (code : ℕ) (bytes : List ℕ) (whole : R) (reject : A) (places : List (Clause R A)) (held count : ℕ) (action : A) → answer_of (file_of region_of action_of code (length places) bytes) ≡ Ok (count, action) → view_of reject (with_default whole (places_after places (file_of region_of action_of code (length places) bytes)) action) count ≡ loaded_view (view_of reject places held) (file_of region_of action_of code (length places) bytes)
view-loaded region_of action_of code bytes whole reject places held count action told =
    let file = file_of region_of action_of code (length places) bytes in
    let read = file-read file (count, action) told in
    let fit = file-fits region_of action_of code (length places) bytes read.0 action read.1 in
    ap (λ r. view_of reject (with_default whole (places_after places r) action) count) read.1
    ∙ ap (view_of reject (with_default whole (places_after places (Ok (read.0, action))) action)) (sym read.2)
    ∙ refilled whole places read.0 action reject fit.0 fit.1
    ∙ ap (loaded_view (view_of reject places held)) (sym read.1)
