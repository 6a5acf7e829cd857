-- Regions put into a list that grows at the front of lent places.
use Rattle.std.proofs.Common.{◌≡◌, ℕ, ◌+◌, ◌<◌, Bool, false, List, length, get_or, take, set, Some, None, fold, Option, sym, ◌∙◌, subst}
use Rattle.std.proofs.lemmas.Bool.{cond-false}
use Rattle.std.specs.Option.{option_map}
use Rattle.compare.specs.declared.regions.Growing.{Growing}
use Rattle.compare.specs.Growing.{so_far, Grows}
use Rattle.compare.specs.Regions.{stands, put}
use Rattle.compare.specs.Written.{Written}
use Rattle.compare.proofs.Extended.{Extends}
use Rattle.compare.proofs.Fronts.{written_push, written_step, written_stop, written_on, written-short}

-- one region put behind the first n places: it stands already, there is a place, or every place is taken
module _ {R : Type 0} (inside : R → R → Bool) (old : List R) (n : ℕ) (r : R) where
  pub put_behind : n < length old → stands inside r (take n old) ≡ false → Written old (put inside (take n old) r) (Some (n + 1)) (set old n r)
  put_behind h t = subst (λ l. Written old l (Some (n + 1)) (set old n r)) (sym (cond-false _ _ _ t)) (written_push old n r h)

-- a fold of steps that only add at the end, over a list that grows: one step on, and a step that found no place
module _ {R Y : Type 0} (f : List R → Y → List R) (adds : (xs : List R) (y : Y) → Extends xs (f xs y)) (ys : List Y) (before mid after : Growing R) (told : Option (Unit {0})) (i : ℕ) (y : Y) (some : i < length ys) (read : y ≡ get_or ys i y) where
  pub puts_step : Grows before (fold f (so_far before) (take i ys)) (Some tt) mid → Grows mid (f (so_far mid) y) told after → Grows before (fold f (so_far before) (take (i + 1) ys)) told after
  puts_step p q = record {
    written = written_step f adds before.places.now (so_far before) ys i y mid.count mid.places.now (option_map (λ _. after.count) told) after.places.now p.written some read q.written;
    lender = q.lender ∙ p.lender;
  }

  pub puts_stop : (answer : Option (Unit {0})) → told ≡ None → answer ≡ None → Grows before (fold f (so_far before) (take i ys)) (Some tt) mid → Grows mid (f (so_far mid) y) told after → Grows before (fold f (so_far before) ys) answer after
  puts_stop answer a b p q =
      let w = puts_step p q in
      let short = subst (λ o. Written before.places.now (fold f (so_far before) (take (i + 1) ys)) (option_map (λ _. after.count) o) after.places.now) a w.written in
      subst (λ o. Grows before (fold f (so_far before) ys) o after) (sym b) (record { written = written_stop f adds before.places.now (so_far before) ys (i + 1) after.places.now short; lender = w.lender })

-- how many stand in a list that grows, where it had the places
abbrev pub counted_in : {R : Type 0} → Option (Unit {0}) → Growing R → Option ℕ
counted_in told list = option_map (λ _. list.count) told

module _ {R : Type 0} (old xs : List R) (mid after : Growing R) (told : Option (Unit {0})) where
  -- a step that only adds at the end, taken on a list that stands whole
  pub puts_on : (f : List R → List R) → ((ys : List R) → Extends ys (f ys)) → (before : Option (Unit {0})) → before ≡ Some tt → Written old xs (counted_in before mid) mid.places.now → Grows mid (f (so_far mid)) told after → Written old (f xs) (counted_in told after) after.places.now
  puts_on f adds before e w p =
      let whole = subst (λ o. Written old xs (counted_in o mid) mid.places.now) e w in
      written_on f adds old xs mid.count mid.places.now (counted_in told after) after.places.now whole p.written

module _ {R : Type 0} (old xs : List R) (list : Growing R) (told : Option (Unit {0})) (w : Written old xs (counted_in told list) list.places.now) where
  -- a list that found no place, in memory that holds the beginning of any longer list
  pub puts_over : {memory all : List R} {answer : Option ℕ} → Extends xs all → told ≡ None → answer ≡ None → memory ≡ list.places.now → Written old all answer memory
  puts_over {memory} {all} {answer} more e f m =
      let short = subst (λ o. Written old xs (counted_in o list) list.places.now) e w in
      subst (λ o. Written old all o memory) (sym f) (subst (Written old all None) (sym m) (written-short old xs all list.places.now short more))

  pub puts_done : {memory : List R} → told ≡ Some tt → memory ≡ list.places.now → Written old xs (Some list.count) memory
  puts_done {memory} e m = subst (Written old xs (Some list.count)) (sym m) (subst (λ o. Written old xs (counted_in o list) list.places.now) e w)
