-- A filter's view after an edit of its memory.
use Rattle.std.proofs.Common.{◌≡◌, ℕ, ◌+◌, ◌-◌, ◌<◌, ◌≤◌, min, ltb, List, ◌++◌, map, length, get_or, take, drop, set, Ok, Err, Result, sym, ap, ◌∙◌, append_assoc, arith, length-append, length-drop, length-set, length-take}
use lib.ListN.{length-map}
use Rattle.std.specs.List.{insert, remove}
use Rattle.std.proofs.lemmas.List.Edits.{length-insert, length-remove}
use Rattle.std.proofs.lemmas.List.{map-append, map-set, drop-map, get_or-append_right, get_or-drop, get_or-set_other, take_at, take-append-drop, set-append_left, take-set-le}
use Rattle.std.proofs.lemmas.Bool.{cond-true, lt-ltb}
use Rattle.family.specs.declared.clauses.Clause.{Clause}
use Rattle.filterfile.specs.Files.{usable_places}
use Rattle.filter.specs.declared.errors.EditError.{EditError}
use Rattle.filter.specs.Ledger.{if_done, insert_at_answer, at_answer, with_clauses, insert_answer, place_answer, default_answer, after_insert, after_remove, after_replace, after_default, inserted_places, removed_places}
use Rattle.filter.specs.Views.{View, default_in, clauses_in, view_of, with_default}
use Rattle.filter.proofs.Fitting.{insert_fits, at_fits}
use Rattle.filter.proofs.Viewed.{same_view, room-kept, default-put}

module _ {R A : Type 0} (reject : A) (places : List (Clause R A)) where
  act : Clause R A → A
  act c = c.action

  -- a front written over places that do not reach the last leaves the default
  default_behind : (front : List (Clause R A)) (k : ℕ) → length front ≡ k → k < length places → default_in reject (front ++ drop k places) ≡ default_in reject places
  unfolding act
  default_behind front k size within =
      let long : length (front ++ drop k places) ≡ length places = omega (arith, length-append front (drop k places), length-drop k places) in
      let last = length places - 1 in
      let mapped : length (map act front) ≡ k = length-map front act ∙ size in
      let reach : k ≤ last = omega arith in
      let back : k + (last - k) ≡ last = omega arith in
      ap (λ n. get_or (map act (front ++ drop k places)) (n - 1) reject) long
      ∙ ap (λ l. get_or l last reject) (map-append act front (drop k places))
      ∙ get_or-append_right (map act front) (map act (drop k places)) k last reject mapped reach
      ∙ ap (λ l. get_or l (last - k) reject) (sym (drop-map act k places))
      ∙ get_or-drop k (map act places) (last - k) reject
      ∙ ap (λ j. get_or (map act places) j reject) back

  -- the view of a front of n clauses over places that do not reach the last
  fronted : (front : List (Clause R A)) (behind : List (Clause R A)) (n count : ℕ) → length front ≡ n → n ≤ usable_places (length places) → length (front ++ behind) ≡ length places → default_in reject (front ++ behind) ≡ default_in reject places → view_of reject (front ++ behind) n ≡ with_clauses (view_of reject places count) front
  fronted front behind n count size fits long same =
      let all : min n (usable_places (length (front ++ behind))) ≡ n = omega arith in
      same_view (ap (λ k. take k (front ++ behind)) all ∙ take_at front behind n size) same long

  pub redefaulted : (whole : R) (count : ℕ) (action : A) → 0 < length places → view_of reject (with_default whole places action) count ≡ record { clauses = clauses_in places count; default = action; room = length places }
  redefaulted whole count action some =
      let put : Clause R A = record { region = whole; action = action } in
      let last = length places - 1 in
      let size = room-kept whole places action in
      let n = min count (usable_places (length places)) in
      let before : n ≤ last = omega arith in
      same_view
      (ap (λ k. take (min count (usable_places k)) (set places last put)) size ∙ take-set-le n places last put before)
      (default-put whole places action reject some)
      size

  pub view-redefaulted : (whole : R) (count : ℕ) (action : A) → 0 < length places → view_of reject (with_default whole places action) count ≡ after_default (view_of reject places count) action
  view-redefaulted whole count action some =
      let v = view_of reject places count in
      let answer : Ok tt ≡ default_answer v = sym (cond-true (ltb 0 v.room) _ _ (lt-ltb _ _ some)) in
      redefaulted whole count action some ∙ ap (λ o. if_done o (record { clauses = v.clauses; default = action; room = v.room }) v) answer

  -- an edit of the clauses, which are so many
  module _ (count : ℕ) (fits : count ≤ usable_places (length places)) where
    abbrev v : View R A
    v = view_of reject places count

    all : count ≡ min count (usable_places (length places))
    all = omega (arith, fits)

    upto : length (take count places) ≡ count
    upto = omega (arith, fits, length-take count places)

    pub size : count ≡ length (clauses_in places count)
    size = sym (ap (λ k. length (take k places)) (sym all) ∙ upto)

    inserted : (place : ℕ) (c : Clause R A) → place ≤ count → count < usable_places (length places) → view_of reject (inserted_places places count place c) (count + 1) ≡ with_clauses v (insert (clauses_in places count) place c)
    inserted place c low free =
        let front = insert (take count places) place c in
        let long : length front ≡ count + 1 = length-insert (take count places) place c (omega (arith, upto)) ∙ ap (λ k. k + 1) upto in
        let whole : length (front ++ drop (count + 1) places) ≡ length places = omega (arith, length-append front (drop (count + 1) places), length-drop (count + 1) places) in
        fronted front (drop (count + 1) places) (count + 1) count long (omega arith) whole (default_behind front (count + 1) long (omega arith))
        ∙ ap (λ k. with_clauses v (insert (take k places) place c)) all

    removed : (place : ℕ) → place < count → view_of reject (removed_places places count place) (count - 1) ≡ with_clauses v (remove (clauses_in places count) place)
    removed place low =
        let front = remove (take count places) place in
        let gone = take 1 (drop place places) in
        let long : length front ≡ count - 1 = omega (arith, upto, length-remove (take count places) place (omega (arith, upto))) in
        let one : length gone ≡ 1 = omega (arith, fits, length-take 1 (drop place places), length-drop place places) in
        let both : length (front ++ gone) ≡ count = omega (arith, length-append front gone) in
        let grouped = append_assoc front gone (drop count places) in
        let whole : length (front ++ (gone ++ drop count places)) ≡ length places = omega (arith, fits, length-append front (gone ++ drop count places), length-append gone (drop count places), length-drop count places) in
        fronted front (gone ++ drop count places) (count - 1) count long (omega (arith, fits)) whole (ap (default_in reject) (sym grouped) ∙ default_behind (front ++ gone) count both (omega (arith, fits)))
        ∙ ap (λ k. with_clauses v (remove (take k places) place)) all

    replaced : (place : ℕ) (c : Clause R A) → place < count → view_of reject (set places place c) count ≡ with_clauses v (set (clauses_in places count) place c)
    unfolding act
    replaced place c low =
        let last = length places - 1 in
        let whole = length-set places place c in
        let reach : place < length (take count places) = omega (arith, upto) in
        let other : last ≡ place → ⊥ = λ same. omega (arith, fits) in
        let front : set places place c ≡ set (take count places) place c ++ drop count places = ap (λ l. set l place c) (sym (take-append-drop count places)) ∙ set-append_left (take count places) (drop count places) place c reach in
        let long : length (set (take count places) place c) ≡ count = length-set (take count places) place c ∙ upto in
        let counted : min count (usable_places (length (set places place c))) ≡ count = omega (arith, fits) in
        same_view
        (ap (λ k. take k (set places place c)) counted ∙ ap (take count) front ∙ take_at (set (take count places) place c) (drop count places) count long ∙ ap (λ k. set (take k places) place c) all)
        (ap (λ k. get_or (map act (set places place c)) (k - 1) reject) whole ∙ ap (λ l. get_or l last reject) (map-set act places place c) ∙ get_or-set_other (map act places) place last (act c) reject other)
        whole

    pub view-inserted : (place : ℕ) (c : Clause R A) (after : List (Clause R A)) (r : Result (Unit {0}) EditError) → Ok tt ≡ r → r ≡ insert_at_answer count (usable_places (length places)) place → after ≡ if_done r (inserted_places places count place c) places → view_of reject after (count + 1) ≡ after_insert v place c
    view-inserted place c after r done told put =
        let fit = insert_fits count (usable_places (length places)) place (done ∙ told) in
        let answer : Ok tt ≡ insert_answer v place = done ∙ told ∙ ap (λ k. insert_at_answer k (usable_places (length places)) place) size in
        ap (λ l. view_of reject l (count + 1)) (put ∙ ap (λ o. if_done o (inserted_places places count place c) places) (sym done))
        ∙ inserted place c fit.0 fit.1
        ∙ ap (λ o. if_done o (with_clauses v (insert (clauses_in places count) place c)) v) answer

    pub view-not-inserted : (place : ℕ) (c : Clause R A) (after : List (Clause R A)) (r : Result (Unit {0}) EditError) (refused : EditError) → Err refused ≡ r → r ≡ insert_at_answer count (usable_places (length places)) place → after ≡ if_done r (inserted_places places count place c) places → view_of reject after count ≡ after_insert v place c
    view-not-inserted place c after r refused was told put =
        let answer : Err refused ≡ insert_answer v place = was ∙ told ∙ ap (λ k. insert_at_answer k (usable_places (length places)) place) size in
        ap (λ l. view_of reject l count) (put ∙ ap (λ o. if_done o (inserted_places places count place c) places) (sym was))
        ∙ ap (λ o. if_done o (with_clauses v (insert (clauses_in places count) place c)) v) answer

    pub view-removed : (place : ℕ) (after : List (Clause R A)) (r : Result (Unit {0}) EditError) → Ok tt ≡ r → r ≡ at_answer count place → after ≡ if_done r (removed_places places count place) places → view_of reject after (count - 1) ≡ after_remove v place
    view-removed place after r done told put =
        let answer : Ok tt ≡ place_answer v place = done ∙ told ∙ ap (λ k. at_answer k place) size in
        ap (λ l. view_of reject l (count - 1)) (put ∙ ap (λ o. if_done o (removed_places places count place) places) (sym done))
        ∙ removed place (at_fits count place (done ∙ told))
        ∙ ap (λ o. if_done o (with_clauses v (remove (clauses_in places count) place)) v) answer

    pub view-replaced : (place : ℕ) (c : Clause R A) (after : List (Clause R A)) (r : Result (Unit {0}) EditError) → r ≡ at_answer count place → after ≡ if_done r (set places place c) places → view_of reject after count ≡ after_replace v place c
    view-replaced place c after (Ok done) told put =
        let answer : Ok tt ≡ place_answer v place = told ∙ ap (λ k. at_answer k place) size in
        ap (λ l. view_of reject l count) put
        ∙ replaced place c (at_fits count place told)
        ∙ ap (λ o. if_done o (with_clauses v (set (clauses_in places count) place c)) v) answer
    view-replaced place c after (Err refused) told put =
        let answer : Err refused ≡ place_answer v place = told ∙ ap (λ k. at_answer k place) size in
        ap (λ l. view_of reject l count) put
        ∙ ap (λ o. if_done o (with_clauses v (set (clauses_in places count) place c)) v) answer
