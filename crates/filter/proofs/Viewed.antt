-- A filter's view after its memory was written.
use Rattle.std.proofs.Common.{◌≡◌, ◌-◌, ◌<◌, ◌≤◌, min, List, ◌++◌, map, length, get_or, take, drop, set, refl, ap, ◌∙◌, ⊎_elim, arith, length-append, length-drop, length-set}
use lib.ListN.{length-map}
use Rattle.std.proofs.lemmas.List.{map-set, get_or-set_same, get_or_past, take-set-le, take_at}
use Rattle.std.proofs.lemmas.Bool.{cases_lt}
use Rattle.family.specs.declared.clauses.Clause.{Clause}
use Rattle.filterfile.specs.Files.{usable_places}
use Rattle.filter.specs.Views.{View, default_in, view_of, empty_view, with_default}

module _ {R A : Type 0} where
  pub same_view : {v w : View R A} → v.clauses ≡ w.clauses → v.default ≡ w.default → v.room ≡ w.room → v ≡ w
  same_view {v} {w} c d r =
      ap (λ x. record { clauses = x; default = v.default; room = v.room }) c ∙ ap (λ x. record { clauses = w.clauses; default = x; room = v.room }) d ∙ ap (λ x. record { clauses = w.clauses; default = w.default; room = x }) r

  pub room-kept : (whole : R) (places : List (Clause R A)) (action : A) → length (with_default whole places action) ≡ length places
  room-kept whole places action = length-set places (length places - 1) (record { region = whole; action = action })

  pub default-put : (whole : R) (places : List (Clause R A)) (action reject : A) → 0 < length places → default_in reject (with_default whole places action) ≡ action
  default-put whole places action reject some =
      let last = length places - 1 in
      let put : Clause R A = record { region = whole; action = action } in
      let long : length (map (λ c. c.action) places) ≡ length places = length-map places (λ c. c.action) in
      let within : last < length (map (λ c. c.action) places) = omega arith in
      ap (λ n. get_or (map (λ c. c.action) (set places last put)) (n - 1) reject) (room-kept whole places action)
      ∙ ap (λ l. get_or l last reject) (map-set (λ c. c.action) places last put)
      ∙ get_or-set_same (map (λ c. c.action) places) last action reject within

  pub default_none : (places : List (Clause R A)) (reject : A) → length places ≡ 0 → default_in reject places ≡ reject
  default_none places reject none = get_or_past (map (λ c. c.action) places) (length places - 1) reject (omega (arith, length-map places (λ c. c.action)))

  -- a fresh filter
  pub fresh : (whole : R) (places : List (Clause R A)) (reject : A) → view_of reject (with_default whole places reject) 0 ≡ empty_view reject (length places)
  fresh whole places reject =
      let put = with_default whole places reject in
      let none : min 0 (usable_places (length put)) ≡ 0 = omega arith in
      let rejects : default_in reject put ≡ reject =
      ⊎_elim (λ h. default-put whole places reject reject h)
      (λ h. default_none put reject (omega (arith, room-kept whole places reject))) (cases_lt 0 (length places)) in
      same_view (ap (λ n. take n put) none) rejects (room-kept whole places reject)

  -- clauses written at the front, with a default
  pub refilled : (whole : R) (places clauses : List (Clause R A)) (action reject : A) → 0 < length places → length clauses ≤ usable_places (length places) → view_of reject (with_default whole (clauses ++ drop (length clauses) places) action) (length clauses) ≡ record { clauses = clauses; default = action; room = length places }
  refilled whole places clauses action reject some fits =
      let written = clauses ++ drop (length clauses) places in
      let long : length written ≡ length places = omega (arith, length-append clauses (drop (length clauses) places), length-drop (length clauses) places) in
      let put = with_default whole written action in
      let size = room-kept whole written action in
      let all : min (length clauses) (usable_places (length put)) ≡ length clauses = omega arith in
      let before : length clauses ≤ length written - 1 = omega arith in
      same_view
      (ap (λ n. take n put) all ∙ take-set-le (length clauses) written (length written - 1) (record { region = whole; action = action }) before ∙ take_at clauses (drop (length clauses) places) (length clauses) refl)
      (default-put whole written action reject (omega arith)) (size ∙ long)
