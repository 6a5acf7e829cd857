-- What a reader answered, from what is seen of its answer.
use Rattle.std.proofs.Common.{◌≡◌, ℕ, List, Ok, Err, Result, sym, ap, Bor}
use Rattle.fields.specs.Reading.{seen, seen_rest}

module _ {X E : Type 0} {r : Result (X × Bor (List ℕ)) E} {told : Result (X × List ℕ) E} where
  pub seen_read : {x : X} {rest : Bor (List ℕ)} → seen r ≡ told → r ≡ Ok (x, rest) → told ≡ Ok (x, rest.now)
  seen_read same is = sym (rw is at same)

  pub seen-refused : {fault : E} → seen r ≡ told → r ≡ Err fault → told ≡ Err fault
  seen-refused same is = sym (rw is at same)

pub seen-rest : {E : Type 0} {r : Result (Bor (List ℕ)) E} {told : Result (List ℕ) E} {rest : Bor (List ℕ)} → seen_rest r ≡ told → r ≡ Ok rest → told ≡ Ok rest.now
seen-rest same is = sym (rw is at same)

-- equal readings read the same and leave the same
pub same_parts : {X E : Type 0} {x y : X} {rest behind : List ℕ} → ◌≡◌ {A = Result (X × List ℕ) E} (Ok (x, rest)) (Ok (y, behind)) → (x ≡ y) × (rest ≡ behind)
same_parts {X} {x = x} {y = y} {rest = rest} {behind = behind} same =
    let both : ◌≡◌ {A = X × List ℕ} (x, rest) (y, behind) = cc in
    (ap (λ (p : X × List ℕ). p.0) both, ap (λ (p : X × List ℕ). p.1) both)
