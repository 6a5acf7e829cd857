-- The action at a place of a clause list: the clause's, or the default where the place holds no clause.
use Rattle.std.specs.Prelude.{ℕ, List, map, slice_index_or}
use Rattle.family.specs.declared.clauses.Clause.{Clause}

abbrev pub action_at : {R A : Type 0} → List (Clause R A) → A → ℕ → A
action_at clauses default place = slice_index_or (map (λ c. c.action) clauses) place default
