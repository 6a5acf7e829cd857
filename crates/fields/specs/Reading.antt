-- One reading after another: each takes bytes from the front, and the first fault ends it.
use Rattle.std.specs.Prelude.{ℕ, Bool, false, List, Ok, Err, Result}
use Rattle.std.specs.Borrow.{Bor}
use Rattle.fields.specs.declared.faults.RecordFault.{RecordFault}

-- what a reader answers: a value and the bytes behind it, or a fault
abbrev pub Read : Type 0 → Type 0
Read X = Result (X × List ℕ) RecordFault

abbrev pub ◌>>=◌ : {X Y E : Type 0} → Result X E → (X → Result Y E) → Result Y E
◌>>=◌ (Ok x) next = next x
◌>>=◌ (Err fault) next = Err fault

-- an answer of the code, what was read seen by its meaning, and its rest as the bytes that it holds
abbrev pub seen_as : {X Y E : Type 0} → (X → Y) → Result (X × Bor (List ℕ)) E → Result (Y × List ℕ) E
seen_as meaning (Ok p) = Ok (meaning p.0, p.1.now)
seen_as meaning (Err fault) = Err fault

-- an answer of the code, its rest seen as the bytes that it holds
abbrev pub seen : {X E : Type 0} → Result (X × Bor (List ℕ)) E → Result (X × List ℕ) E
seen answer = seen_as (λ x. x) answer

-- the same where the answer is the rest alone
abbrev pub seen_rest : {E : Type 0} → Result (Bor (List ℕ)) E → Result (List ℕ) E
seen_rest (Ok rest) = Ok rest.now
seen_rest (Err fault) = Err fault

-- what was read, without the bytes behind it
abbrev pub outcome_of : {X : Type 0} → Read X → Result X RecordFault
outcome_of (Ok p) = Ok p.0
outcome_of (Err fault) = Err fault

-- whether the region that was read holds a point
abbrev pub held_in : {R P : Type 0} → (R → P → Bool) → Result R RecordFault → P → Bool
held_in holds (Ok region) point = holds region point
held_in holds (Err fault) point = false
