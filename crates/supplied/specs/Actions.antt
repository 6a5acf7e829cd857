-- When two route actions are alike: where they are the same.
use Rattle.std.specs.Prelude.{◌≡◌, ℕ, Bool, true, false, ◌&&◌, Some, None, Option, ◌==◌, refl}
use Rattle.std.proofs.Common.{ap}
use Rattle.std.proofs.lemmas.Bool.{eqb-true, eq-eqb, and_parts, and_from}
use Rattle.family.specs.Actions.{ActionLaws}
use Rattle.supplied.specs.declared.actions.RouteAction.{RouteAction}
use Rattle.supplied.specs.declared.actions.RouteAction.TheVariants.{Reject, Accept}

-- a number that may be absent: present with one value is never the same as absent
abbrev pub same_number : Option ℕ → Option ℕ → Bool
same_number (Some a) (Some b) = a == b
same_number (Some a) None = false
same_number None (Some b) = false
same_number None None = true

abbrev pub rejected : RouteAction
rejected = Reject

abbrev pub same_action : RouteAction → RouteAction → Bool
same_action Reject Reject = true
same_action Reject (Accept q n) = false
same_action (Accept p m) Reject = false
same_action (Accept p m) (Accept q n) = same_number p q && same_number m n

number_equal : (a b : Option ℕ) → same_number a b ≡ true → a ≡ b
number_equal (Some a) (Some b) h = ap Some (eqb-true a b h)
number_equal (Some a) None h = cc
number_equal None (Some b) h = cc
number_equal None None h = refl

number_same : (a b : Option ℕ) → a ≡ b → same_number a b ≡ true
number_same (Some a) (Some b) h = eq-eqb a b (cc)
number_same (Some a) None h = cc
number_same None (Some b) h = cc
number_same None None h = refl

action_equal : (a b : RouteAction) → same_action a b ≡ true → a ≡ b
action_equal Reject Reject h = refl
action_equal Reject (Accept q n) h = cc
action_equal (Accept p m) Reject h = cc
action_equal (Accept p m) (Accept q n) h =
    let parts = and_parts (same_number p q) (same_number m n) h in
    cc (number_equal p q parts.0, number_equal m n parts.1)

action_same : (a b : RouteAction) → a ≡ b → same_action a b ≡ true
action_same Reject Reject h = refl
action_same Reject (Accept q n) h = cc
action_same (Accept p m) Reject h = cc
action_same (Accept p m) (Accept q n) h =
    and_from (same_number p q) (same_number m n) (number_same p q (cc)) (number_same m n (cc))

pub route_action_laws : ActionLaws (λ (a : RouteAction). a) same_action
route_action_laws = record { equal_effects = action_equal; alike_when_equal = action_same }
