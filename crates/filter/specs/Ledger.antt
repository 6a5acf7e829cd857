-- The ledger of a filter: what each call answers and what it makes of clauses and default, by the filter before and the arguments alone.
use Rattle.std.specs.Prelude.{◌≡◌, ℕ, ◌+◌, ◌<◌, ◌≤◌, Bool, true, false, cond, List, ◌++◌, length, take, drop, Some, Ok, Err, Result, nat_le, nat_lt, slice_set}
use Rattle.std.specs.List.{slice_get, insert, remove}
use Rattle.family.specs.Clauses.{action_at}
use Rattle.family.specs.Lists.{first_where}
use Rattle.family.specs.declared.clauses.Clause.{Clause}
use Rattle.filterfile.specs.Files.{usable_places}
use Rattle.filter.specs.declared.errors.EditError.{EditError}
use Rattle.filter.specs.declared.errors.EditError.TheVariants.{NoSuchPlace, NoPlaceLeft}
use Rattle.filter.specs.Views.{View}

-- an edit that is done gives the new, one that is refused leaves the old
abbrev pub if_done : {X : Type 0} → Result (Unit {0}) EditError → X → X → X
if_done (Ok done) new old = new
if_done (Err refused) new old = old

-- an element is put among the first so many of so many places, before the one at a place, or at their end
abbrev pub insert_at_answer : ℕ → ℕ → ℕ → Result (Unit {0}) EditError
insert_at_answer count room place = cond (nat_lt count place) (Err NoSuchPlace) (cond (nat_le room count) (Err NoPlaceLeft) (Ok tt))

-- one of so many elements is taken out, or changed
abbrev pub at_answer : ℕ → ℕ → Result (Unit {0}) EditError
at_answer count place = cond (nat_lt place count) (Ok tt) (Err NoSuchPlace)

-- to each region the one answer is what the function gives
abbrev pub AnswersBy : {R : Type 0} → (R → Bool) → (R → Bool → Type 0) → Type 0
AnswersBy passes answers = (r : _) (b : Bool) → answers r b → b ≡ passes r

module _ {R A : Type 0} where
  abbrev pub with_clauses : View R A → List (Clause R A) → View R A
  with_clauses v clauses = record { clauses = clauses; default = v.default; room = v.room }

  -- a clause is put before the one at a place, or at the end
  abbrev pub insert_answer : View R A → ℕ → Result (Unit {0}) EditError
  insert_answer v place = insert_at_answer (length v.clauses) (usable_places v.room) place

  abbrev pub after_insert : View R A → ℕ → Clause R A → View R A
  after_insert v place clause = if_done (insert_answer v place) (with_clauses v (insert v.clauses place clause)) v

  -- the clause at a place is taken out, or changed
  abbrev pub place_answer : View R A → ℕ → Result (Unit {0}) EditError
  place_answer v place = at_answer (length v.clauses) place

  abbrev pub after_remove : View R A → ℕ → View R A
  after_remove v place = if_done (place_answer v place) (with_clauses v (remove v.clauses place)) v

  abbrev pub after_replace : View R A → ℕ → Clause R A → View R A
  after_replace v place clause = if_done (place_answer v place) (with_clauses v (slice_set v.clauses place clause)) v

  -- the default is changed
  abbrev pub default_answer : View R A → Result (Unit {0}) EditError
  default_answer v = cond (nat_lt 0 v.room) (Ok tt) (Err NoPlaceLeft)

  abbrev pub after_default : View R A → A → View R A
  after_default v action = if_done (default_answer v) (record { clauses = v.clauses; default = action; room = v.room }) v

  -- whether a clause's region holds a point
  abbrev pub holding : {P : Type 0} → (R → P → Bool) → P → Clause R A → Bool
  holding holds p c = holds c.region p

  -- whether a clause's region passes a test
  abbrev pub passing : (R → Bool) → Clause R A → Bool
  passing passes c = passes c.region

  -- the place of the first clause whose region passes, and its action; or the place behind the last, and the default
  abbrev pub decision : (R → Bool) → View R A → ℕ × A
  decision passes v = (first_where (passing passes) v.clauses, action_at v.clauses v.default (first_where (passing passes) v.clauses))

  -- the place that decides a point, and its action
  abbrev pub match_of : {P : Type 0} → (R → P → Bool) → View R A → P → ℕ × A
  match_of holds v p = decision (λ r. holds r p) v

  -- no clause before the place holds the point, and the one at it does, unless it is the place behind the last
  pub record FirstHolding {P : Type 0} (holds : R → P → Bool) (clauses : List (Clause R A)) (p : P) (place : ℕ) : Type 0 where
    pub within : place ≤ length clauses
    pub before : (k : ℕ) (c : Clause R A) → k < place → slice_get clauses k ≡ Some c → holding holds p c ≡ false
    pub here : (c : Clause R A) → slice_get clauses place ≡ Some c → holding holds p c ≡ true

  -- memory after an edit of the first n places: the clauses in their order, and behind them what stood there before;
  -- the place that a removal frees keeps the clause taken out
  abbrev pub inserted_places : List (Clause R A) → ℕ → ℕ → Clause R A → List (Clause R A)
  inserted_places places n place clause = insert (take n places) place clause ++ drop (n + 1) places

  abbrev pub removed_places : List (Clause R A) → ℕ → ℕ → List (Clause R A)
  removed_places places n place = remove (take n places) place ++ (take 1 (drop place places) ++ drop n places)
