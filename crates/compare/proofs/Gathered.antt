-- The region list gathered in four steps: the whole region, the left clauses, the right clauses, the meets.
use Rattle.std.proofs.Common.{◌≡◌, ℕ, Bool, List, [], ◌∷◌, length, take, Some, None, Option, subst}
use Rattle.family.specs.declared.clauses.Clause.{Clause}
use Rattle.compare.specs.declared.regions.Growing.{Growing}
use Rattle.compare.specs.Growing.{so_far, Grows}
use Rattle.compare.specs.Regions.{put, put_clauses, grown, region_list}
use Rattle.compare.specs.Written.{Written}
use Rattle.compare.proofs.Extended.{Extends, extends_itself, extends_on, put_clauses_extends, grown_extends}
use Rattle.compare.proofs.Fronts.{written-length}
use Rattle.compare.proofs.Puts.{counted_in, puts_on, puts_over, puts_done}

module _ {R A : Type 0} (inside : R → R → Bool) (meet : R → R → Option R) (whole : R) (left right : List (Clause R A)) (old : List R) where
  abbrev with_whole : List R
  with_whole = whole ∷ []

  abbrev pub with_left : List R
  with_left = put_clauses inside left with_whole

  abbrev pub with_both : List R
  with_both = put_clauses inside right with_left

  abbrev with_meets : List R
  with_meets = region_list inside meet (length old) whole left right

  -- each of the three lists before the last is where the last begins
  both_first : Extends with_both with_meets
  both_first = grown_extends inside meet (length old) 0 with_both

  left_first : Extends with_left with_meets
  left_first = extends_on with_left with_both with_meets (put_clauses_extends inside right with_left) both_first

  whole_first : Extends with_whole with_meets
  whole_first = extends_on with_whole with_left with_meets (put_clauses_extends inside left with_whole) left_first

  module _ (start one : Growing R) (told : Option (Unit {0})) (r : R) (is : r ≡ whole) (none : start.count ≡ 0) (lent : start.places.now ≡ old) (put-one : Grows start (put inside (so_far start) r) told one) where
    whole_stands : Written old with_whole (counted_in told one) one.places.now
    whole_stands =
        let first : Written start.places.now (r ∷ []) (counted_in told one) one.places.now = subst (λ n. Written start.places.now (put inside (take n start.places.now) r) (counted_in told one) one.places.now) none put-one.written in
        subst (λ x. Written old (x ∷ []) (counted_in told one) one.places.now) is (subst (λ o. Written o (r ∷ []) (counted_in told one) one.places.now) lent first)

    -- no place for the whole region
    pub over_whole : {memory : List R} {answer : Option ℕ} → told ≡ None → answer ≡ None → memory ≡ one.places.now → Written old with_meets answer memory
    over_whole e f m = puts_over old with_whole one told whole_stands whole_first e f m

    module _ (two : Growing R) (told-left : Option (Unit {0})) (fine : told ≡ Some tt) (put-left : Grows one (put_clauses inside left (so_far one)) told-left two) where
      left_stands : Written old with_left (counted_in told-left two) two.places.now
      left_stands = puts_on old with_whole one two told-left (put_clauses inside left) (put_clauses_extends inside left) told fine whole_stands put-left

      -- not enough places for the left clauses
      pub over_left : {memory : List R} {answer : Option ℕ} → told-left ≡ None → answer ≡ None → memory ≡ two.places.now → Written old with_meets answer memory
      over_left e f m = puts_over old with_left two told-left left_stands left_first e f m

      module _ (three : Growing R) (told-right : Option (Unit {0})) (fine-left : told-left ≡ Some tt) (put-right : Grows two (put_clauses inside right (so_far two)) told-right three) where
        both_stand : Written old with_both (counted_in told-right three) three.places.now
        both_stand = puts_on old with_left two three told-right (put_clauses inside right) (put_clauses_extends inside right) told-left fine-left left_stands put-right

        -- nor for the right ones
        pub over_right : {memory : List R} {answer : Option ℕ} → told-right ≡ None → answer ≡ None → memory ≡ three.places.now → Written old with_meets answer memory
        over_right e f m = puts_over old with_both three told-right both_stand both_first e f m

        module _ (four : Growing R) (told-meets : Option (Unit {0})) (fine-right : told-right ≡ Some tt) (put-all : Grows three (grown inside meet (length three.places.now) 0 (so_far three)) told-meets four) where
          all_stand : Written old with_meets (counted_in told-meets four) four.places.now
          all_stand =
              let stands = subst (λ o. Written old with_both (counted_in o three) three.places.now) fine-right both_stand in
              subst (λ n. Written old (grown inside meet n 0 with_both) (counted_in told-meets four) four.places.now) (written-length old with_both three.count three.places.now stands)
              (puts_on old with_both three four told-meets (grown inside meet (length three.places.now) 0) (grown_extends inside meet (length three.places.now) 0) told-right fine-right both_stand put-all)

          -- nor for the meets
          pub over_meets : {memory : List R} {answer : Option ℕ} → told-meets ≡ None → answer ≡ None → memory ≡ four.places.now → Written old with_meets answer memory
          over_meets e f m = puts_over old with_meets four told-meets all_stand (extends_itself with_meets) e f m

          pub gathered : {memory : List R} → told-meets ≡ Some tt → memory ≡ four.places.now → Written old with_meets (Some four.count) memory
          gathered e m = puts_done old with_meets four told-meets all_stand e m
