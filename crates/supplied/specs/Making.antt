-- What is made unless there is a fault.
use Rattle.std.specs.Prelude.{◌≡◌, Bool, true, false, Some, None, Ok, Err, Option, Result, refl}
use Rattle.std.proofs.Common.{ap}
use Rattle.supplied.specs.declared.errors.MakeError.{MakeError}

abbrev pub unless_fault : {X : Type 0} (fault : Option MakeError) → (fault ≡ None → X) → Result X MakeError
unless_fault (Some e) make = Err e
unless_fault None make = Ok (make refl)

-- a test that must pass before the faults that come after it
abbrev pub or_else : Bool → MakeError → Option MakeError → Option MakeError
or_else true e later = later
or_else false e later = Some e

pub passed : (b : Bool) (e : MakeError) (later : Option MakeError) → or_else b e later ≡ None → (b ≡ true) × (later ≡ None)
passed true e later h = (refl, h)
passed false e later h = absurd (cc)

pub refused : {X : Type 0} (fault : Option MakeError) (make : fault ≡ None → X) (e : MakeError) → fault ≡ Some e → unless_fault fault make ≡ Err e
refused (Some d) make e h = cc
refused None make e h = cc

pub made : {X : Type 0} (fault : Option MakeError) (make : fault ≡ None → X) (x : X) → fault ≡ None → ((n : fault ≡ None) → make n ≡ x) → unless_fault fault make ≡ Ok x
made (Some d) make x h same = cc
made None make x h same = ap Ok (same refl)

-- where something is made, there was no fault
pub faultless : {X : Type 0} (fault : Option MakeError) (make : fault ≡ None → X) (x : X) → unless_fault fault make ≡ Ok x → (n : fault ≡ None) × (make n ≡ x)
faultless (Some d) make x h = absurd (cc)
faultless None make x h = (refl, cc)

-- where nothing is made, there was that fault
pub faulted : {X : Type 0} (fault : Option MakeError) (make : fault ≡ None → X) (e : MakeError) → unless_fault fault make ≡ Err e → fault ≡ Some e
faulted (Some d) make e h = cc
faulted None make e h = cc

-- what is made where a test passes
abbrev pub if_true : {X : Type 0} (b : Bool) → (b ≡ true → X) → Option X
if_true true make = Some (make refl)
if_true false make = None

pub if_some : {X : Type 0} (b : Bool) (make : b ≡ true → X) (x : X) → if_true b make ≡ Some x → (e : b ≡ true) × (make e ≡ x)
if_some true make x h = (refl, cc)
if_some false make x h = absurd (cc)

pub if_none : {X : Type 0} (b : Bool) (make : b ≡ true → X) → if_true b make ≡ None → b ≡ false
if_none true make h = cc
if_none false make h = refl

pub some_if : {X : Type 0} (b : Bool) (make : b ≡ true → X) (x : X) → b ≡ true → ((e : b ≡ true) → make e ≡ x) → if_true b make ≡ Some x
some_if true make x h same = ap Some (same refl)
some_if false make x h same = cc

pub none_if : {X : Type 0} (b : Bool) (make : b ≡ true → X) → b ≡ false → if_true b make ≡ None
none_if true make h = cc
none_if false make h = refl
