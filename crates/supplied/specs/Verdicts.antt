-- When two verdicts are alike: where they are the same.
use Rattle.std.specs.Prelude.{◌≡◌, Bool, true, false, refl}
use Rattle.family.specs.Actions.{ActionLaws}
use Rattle.supplied.specs.declared.actions.Verdict.{Verdict}
use Rattle.supplied.specs.declared.actions.Verdict.TheVariants.{Reject, Accept}

abbrev pub refused : Verdict
refused = Reject

abbrev pub same_verdict : Verdict → Verdict → Bool
same_verdict Reject Reject = true
same_verdict Reject Accept = false
same_verdict Accept Reject = false
same_verdict Accept Accept = true

verdict_equal : (a b : Verdict) → same_verdict a b ≡ true → a ≡ b
verdict_equal Reject Reject h = refl
verdict_equal Reject Accept h = cc
verdict_equal Accept Reject h = cc
verdict_equal Accept Accept h = refl

verdict_same : (a b : Verdict) → a ≡ b → same_verdict a b ≡ true
verdict_same Reject Reject h = refl
verdict_same Reject Accept h = cc
verdict_same Accept Reject h = cc
verdict_same Accept Accept h = refl

pub verdict_laws : ActionLaws (λ (a : Verdict). a) same_verdict
verdict_laws = record { equal_effects = verdict_equal; alike_when_equal = verdict_same }
