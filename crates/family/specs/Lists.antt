-- Words for lists: the first place whose element passes a test.
use Rattle.std.specs.Prelude.{ℕ, suc, Bool, cond, List, [], ◌∷◌}

-- that place, or the length where none passes
abbrev pub first_where : {X : Type 0} → (X → Bool) → List X → ℕ
first_where p [] = 0
first_where p (x ∷ xs) = cond (p x) 0 (suc (first_where p xs))
