-- What a reading that succeeded says of its steps.
use Rattle.std.proofs.Common.{◌≡◌, Bool, true, false, cond, Ok, Err, Result, refl}
use Rattle.fields.specs.Reading.{◌>>=◌}

module _ {X E : Type 0} where
  pub never-read : {fault : E} {x : X} → ◌≡◌ {A = Result X E} (Err fault) (Ok x) → ⊥
  never-read same = cc

  -- both steps succeeded
  pub both_steps : {Y : Type 0} (r : Result X E) (go : X → Result Y E) (y : Y) → ◌>>=◌ r go ≡ Ok y → (x : X) × (r ≡ Ok x) × (go x ≡ Ok y)
  both_steps (Ok x) go y same = (x, refl, same)
  both_steps (Err fault) go y same = cc

  -- the test passed
  pub not_refused : (b : Bool) (fault : E) (r : Result X E) (x : X) → cond b (Err fault) r ≡ Ok x → (b ≡ false) × (r ≡ Ok x)
  not_refused true fault r x same = absurd (never-read same)
  not_refused false fault r x same = (refl, same)

  pub passed : (b : Bool) (fault : E) (r : Result X E) (x : X) → cond b r (Err fault) ≡ Ok x → (b ≡ true) × (r ≡ Ok x)
  passed true fault r x same = (refl, same)
  passed false fault r x same = absurd (never-read same)

  -- equal answers have equal values
  pub same-value : (a b : X) → ◌≡◌ {A = Result X E} (Ok a) (Ok b) → a ≡ b
  same-value a b same = cc
