-- A region list that grows at the front of lent places.
use Rattle.std.specs.Prelude.{◌≡◌, List, take, Option}
use Rattle.std.specs.Option.{option_map}
use Rattle.compare.specs.declared.regions.Growing.{Growing}
use Rattle.compare.specs.Written.{Written}

abbrev pub so_far : {R : Type 0} → Growing R → List R
so_far list = take list.count list.places.now

-- a list was put over the one so far, in the same places
pub record Grows {R : Type 0} (before : Growing R) (list : List R) (told : Option (Unit {0})) (after : Growing R) : Type 0 where
  pub written : Written before.places.now list (option_map (λ _. after.count) told) after.places.now
  pub lender : after.places.ghost_name ≡ before.places.ghost_name
