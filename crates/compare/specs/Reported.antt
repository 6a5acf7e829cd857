-- What a comparison reports: exactly the routes that two filters treat unlike, each in one row.
use Rattle.std.specs.Prelude.{◌≡◌, ℕ, ◌+◌, ◌<◌, ◌≤◌, Bool, true, false, not, ◌&&◌, ◌⊎◌, ◌↔◌, List, length, take, drop, Some}
use mathlib.Core.List.{Memᴰ}
use Rattle.std.specs.List.{slice_get}
use Rattle.family.specs.Clauses.{action_at}
use Rattle.std.specs.List.{list_any}
use Rattle.family.specs.Lists.{first_where}
use Rattle.family.specs.declared.clauses.Clause.{Clause}
use Rattle.compare.specs.declared.rows.Row.{Row}
use Rattle.compare.specs.Cells.{region_at, strictly}
use Rattle.compare.specs.Meets.{Listed, clause_regions}
use Rattle.compare.specs.Rows.{laid, holes_of_rows}

-- a row stands before another: by left place, then right place, then region number
abbrev pub Before : Row → Row → Type 0
Before a b = (a.left < b.left) ⊎ ((a.left ≡ b.left) × ((a.right < b.right) ⊎ ((a.right ≡ b.right) × (a.region < b.region))))

-- the numbers of a row's holes, read from where the row says
abbrev pub read_holes : List ℕ → Row → List ℕ
read_holes holes row = take row.number (drop row.start holes)

abbrev pub Rising : List ℕ → Type 0
Rising ns = (i j m n : ℕ) → i < j → slice_get ns i ≡ Some m → slice_get ns j ≡ Some n → m < n

-- a region's hole, by number: a listed region strictly inside it that is strictly inside no other such region
abbrev pub IsHole : {R : Type 0} → (R → R → Bool) → R → List R → R → ℕ → Type 0
IsHole inside whole regions own hole =
    (hole < length regions) × (strictly inside (region_at whole regions hole) own ≡ true)
    × ((n : ℕ) → n < length regions → strictly inside (region_at whole regions n) own ≡ true → strictly inside (region_at whole regions hole) (region_at whole regions n) ≡ false)

module _ {R P : Type 0} (holds : R → P → Bool) where
  -- the place that decides a route: the first clause whose region holds it, or the number of clauses for the default
  abbrev pub decided_at : {A : Type 0} → List (Clause R A) → P → ℕ
  decided_at clauses p = first_where (λ c. holds c.region p) clauses

  -- whether a route is treated alike: the actions at its two deciding places are alike
  abbrev pub treated_alike : {A : Type 0} → (A → A → Bool) → List (Clause R A) → A → List (Clause R A) → A → P → Bool
  treated_alike alike left left-default right right-default p = alike (action_at left left-default (decided_at left p)) (action_at right right-default (decided_at right p))

  -- a row holds the points of its region outside its holes
  abbrev pub row_holds : R → List R → List ℕ → Row → P → Bool
  row_holds whole regions holes row p = holds (region_at whole regions row.region) p && not (list_any (λ n. holds (region_at whole regions n) p) (read_holes holes row))

module _ {R P A : Type 0} (whole : R) (holds : R → P → Bool) (inside : R → R → Bool) (alike : A → A → Bool) (left : List (Clause R A)) (left-default : A) (right : List (Clause R A)) (right-default : A) (regions : List R) (rows : List Row) (holes : List ℕ) where
  abbrev pub Unlike : P → Type 0
  Unlike p = treated_alike holds alike left left-default right right-default p ≡ false

  -- the row at a place holds a route
  abbrev pub Lies : ℕ → Row → P → Type 0
  Lies k row p = (slice_get rows k ≡ Some row) × (row_holds holds whole regions holes row p ≡ true)

  pub record Reported : Type 0 where
    -- each route treated unlike lies in a row, and in no second one
    pub each : (p : P) → Unlike p → (k : ℕ) × (row : Row) × Lies k row p
    pub once : (p : P) (j k : ℕ) (a b : Row) → Lies j a p → Lies k b p → j ≡ k
    -- each row holds a route, and only routes treated unlike, decided at the two places that the row names
    pub some : (k : ℕ) (row : Row) → slice_get rows k ≡ Some row → (p : P) × Lies k row p
    pub only : (k : ℕ) (row : Row) (p : P) → Lies k row p → Unlike p × (row.left ≡ decided_at holds left p) × (row.right ≡ decided_at holds right p)
    pub ordered : (j k : ℕ) (a b : Row) → j < k → slice_get rows j ≡ Some a → slice_get rows k ≡ Some b → Before a b
    -- there is no row exactly when every route is treated alike
    pub none : (length rows ≡ 0) ↔ ((p : P) → treated_alike holds alike left left-default right right-default p ≡ true)
    -- rows name exactly those two places that together decide a route treated unlike
    pub pairs : (i j : ℕ) → ((k : ℕ) × (row : Row) × (slice_get rows k ≡ Some row) × (row.left ≡ i) × (row.right ≡ j)) ↔ ((p : P) × Unlike p × (decided_at holds left p ≡ i) × (decided_at holds right p ≡ j))
    -- the regions are the whole region and the meets of clauses' regions, each once
    pub listed : Listed holds whole (clause_regions left right) regions
    -- what a row refers to was written: its region, and its region's holes by rising number
    pub written : (k : ℕ) (row : Row) → slice_get rows k ≡ Some row → (row.region < length regions) × (row.start + row.number ≤ length holes)
    pub holed : (k : ℕ) (row : Row) → slice_get rows k ≡ Some row → Rising (read_holes holes row) × ((hole : ℕ) → Memᴰ hole (read_holes holes row) ↔ IsHole inside whole regions (region_at whole regions row.region) hole)
    -- the holes stand row after row, with nothing between or behind
    pub starts : laid 0 rows ≡ rows
    pub filled : holes ≡ holes_of_rows inside whole regions rows
