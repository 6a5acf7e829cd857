-- What an action kind owes: two actions are alike exactly when their effects are equal.
use Rattle.std.specs.Prelude.{◌≡◌, Bool, true}

pub record ActionLaws {A E : Type 0} (effect : A → E) (alike : A → A → Bool) : Type 0 where
  pub equal_effects : (a b : A) → alike a b ≡ true → effect a ≡ effect b
  pub alike_when_equal : (a b : A) → effect a ≡ effect b → alike a b ≡ true
