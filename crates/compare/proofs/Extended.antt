-- A list that begins with another: the region list only grows at its end.
use Rattle.std.proofs.Common.{◌≡◌, ℕ, zero, suc, ◌≤◌, Bool, true, false, cond, List, [], ◌∷◌, ◌++◌, length, take, drop, Some, None, fold, Option, sym, refl, ap, ◌∙◌, append_assoc, append-nil, arith, length-append}
use Rattle.family.specs.declared.clauses.Clause.{Clause}
use Rattle.compare.specs.declared.rows.Row.{Row}
use Rattle.compare.specs.Cells.{region_at, holes_of}
use Rattle.compare.specs.Rows.{add_holes}
use Rattle.compare.specs.Regions.{stands, put, put_clauses, put_meet, put_meets, grown}

abbrev pub Extends : {X : Type 0} → List X → List X → Type 0
Extends {X} xs ys = (more : List X) × (ys ≡ xs ++ more)

module _ {X : Type 0} where
  pub extends_itself : (xs : List X) → Extends xs xs
  extends_itself xs = ([], sym (append-nil xs))

  pub extends_on : (xs ys zs : List X) → Extends xs ys → Extends ys zs → Extends xs zs
  extends_on xs ys zs e f = (e.0 ++ f.0, f.1 ∙ ap (λ l. l ++ f.0) e.1 ∙ append_assoc xs e.0 f.0)

  pub extends_length : (xs ys : List X) → Extends xs ys → length xs ≤ length ys
  extends_length xs ys e = omega (arith, ap length e.1, length-append xs e.0)

  -- a fold of steps that only add at the end
  pub folded_extends : {Y : Type 0} (f : List X → Y → List X) → ((xs : List X) (y : Y) → Extends xs (f xs y)) → (xs : List X) (ys : List Y) → Extends xs (fold f xs ys)
  folded_extends f step xs [] = extends_itself xs
  folded_extends f step xs (y ∷ ys) = extends_on xs (f xs y) (fold f (f xs y) ys) (step xs y) (folded_extends f step (f xs y) ys)

  -- a fold over the front of a list is where the whole fold begins
  pub folded_front : {Y : Type 0} (f : List X → Y → List X) → ((xs : List X) (y : Y) → Extends xs (f xs y)) → (xs : List X) (n : ℕ) (ys : List Y) → Extends (fold f xs (take n ys)) (fold f xs ys)
  folded_front f step xs zero ys = folded_extends f step xs ys
  folded_front f step xs (suc n) [] = extends_itself xs
  folded_front f step xs (suc n) (y ∷ ys) = folded_front f step (f xs y) n ys

module _ {R : Type 0} (inside : R → R → Bool) where
  put_either : (b : Bool) (xs : List R) (r : R) → Extends xs (cond b xs (xs ++ (r ∷ [])))
  put_either true xs r = extends_itself xs
  put_either false xs r = (r ∷ [], refl)

  pub put_extends : (xs : List R) (r : R) → Extends xs (put inside xs r)
  put_extends xs r = put_either (stands inside r xs) xs r

  pub put_clauses_extends : {A : Type 0} (clauses : List (Clause R A)) (xs : List R) → Extends xs (put_clauses inside clauses xs)
  put_clauses_extends clauses xs = folded_extends (λ ys c. put inside ys c.region) (λ ys c. put_extends ys c.region) xs clauses

  pub put_meet_extends : (xs : List R) (m : Option R) → Extends xs (put_meet inside xs m)
  put_meet_extends xs None = extends_itself xs
  put_meet_extends xs (Some m) = put_extends xs m

  module _ (meet : R → R → Option R) where
    pub put_meets_extends : (r : R) (others xs : List R) → Extends xs (put_meets inside meet r others xs)
    put_meets_extends r others xs = folded_extends (λ ys b. put_meet inside ys (meet r b)) (λ ys b. put_meet_extends ys (meet r b)) xs others

    grown-from : (n a : ℕ) (xs rest : List R) → ((ys : List R) → Extends ys (grown inside meet n (suc a) ys)) → Extends xs (elim rest [ [] ↦ xs | r ∷ more ↦ grown inside meet n (suc a) (put_meets inside meet r (take a xs) xs) ])
    grown-from n a xs [] on = extends_itself xs
    grown-from n a xs (r ∷ more) on = extends_on xs (put_meets inside meet r (take a xs) xs) _ (put_meets_extends r (take a xs) xs) (on _)

    pub grown_extends : (n a : ℕ) (xs : List R) → Extends xs (grown inside meet n a xs)
    grown_extends zero a xs = extends_itself xs
    grown_extends (suc n) a xs = grown-from n a xs (drop a xs) (grown_extends n (suc a))

pub add_holes_extends : {R : Type 0} (inside : R → R → Bool) (whole : R) (xs : List R) (so_far : List ℕ) (row : Row) → Extends so_far (add_holes inside whole xs so_far row)
add_holes_extends inside whole xs so_far row = (holes_of inside whole xs (region_at whole xs row.region), refl)
