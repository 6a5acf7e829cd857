-- A list written at the front of lent places, as far as they reach.
use Rattle.std.specs.Prelude.{◌≡◌, ℕ, ◌<◌, ◌≤◌, List, ◌++◌, length, take, drop, Some, None, Option}

-- told how many were written, the list stands whole before the old places beyond it; told none, it has more
-- elements than there are places, and they hold its beginning
abbrev pub Written : {X : Type 0} → List X → List X → Option ℕ → List X → Type 0
Written old xs None new = (length old < length xs) × (new ≡ take (length old) xs)
Written old xs (Some n) new = (n ≡ length xs) × (n ≤ length old) × (new ≡ xs ++ drop n old)
