-- What an accepted file is, told of its bytes: not how they are read, but how they lie.
use Rattle.std.specs.Prelude.{◌≡◌, ℕ, ◌<◌, ◌≤◌, List, [], ◌∷◌, length, take, Ok, Err, Result}
use Rattle.family.specs.declared.clauses.Clause.{Clause}
use Rattle.fields.specs.declared.faults.Fault.{Fault}
use Rattle.fields.specs.Reading.{Read}

module _ {R A : Type 0} (region_of : List ℕ → Read R) (action_of : List ℕ → Read A) where
  -- clauses laid one behind the other in front of the last bytes
  pub data Laid : List ℕ → List (Clause R A) → List ℕ → Type 0 where
    none : {bytes : List ℕ} → Laid bytes [] bytes
    next : {bytes middle rest last : List ℕ} {region : R} {action : A} {clauses : List (Clause R A)} → region_of bytes ≡ Ok (region, middle) → action_of middle ≡ Ok (action, rest) → Laid rest clauses last → Laid bytes (record { region = region; action = action } ∷ clauses) last

  -- a file of the family of this code, with these clauses and this default, that so many places take in
  pub record Accepted (code memory : ℕ) (bytes : List ℕ) (clauses : List (Clause R A)) (action : A) : Type 0 where
    pub body : List ℕ
    pub last : List ℕ
    -- the family code and the number of clauses, then the clauses, then the default, and no byte behind it
    pub head : bytes ≡ code ∷ length clauses ∷ body
    pub laid : Laid body clauses last
    pub default : action_of last ≡ Ok (action, [])
    -- at most 64 clauses, and a place left for the default
    pub limit : length clauses ≤ 64
    pub room : length clauses < memory

  -- an answer is right: the clauses read stand at the front of the places, or there is no way to accept the file
  abbrev pub Rightly : (code memory : ℕ) (bytes : List ℕ) → Result (ℕ × A) Fault → List (Clause R A) → Type 0
  Rightly code memory bytes (Ok p) places = Accepted code memory bytes (take p.0 places) p.1
  Rightly code memory bytes (Err fault) places = (clauses : List (Clause R A)) (action : A) → Accepted code memory bytes clauses action → ⊥
