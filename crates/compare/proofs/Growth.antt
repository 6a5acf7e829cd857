-- The region list to its growing end, over the places that hold it.
use Rattle.std.proofs.Common.{◌≡◌, ℕ, zero, suc, ◌+◌, ◌-◌, ◌<◌, ◌≤◌, Bool, List, [], ◌∷◌, length, get_or, take, Some, None, Option, sym, refl, ap, ◌∙◌, subst, add-one, arith, length-take}
use Rattle.std.proofs.lemmas.List.{drop_more, drop_all, take-take, get_or-take, get_or_default}
use Rattle.std.specs.Option.{option_map}
use Rattle.compare.specs.declared.regions.Growing.{Growing}
use Rattle.compare.specs.Growing.{so_far, Grows}
use Rattle.compare.specs.Regions.{put_meets, grown}
use Rattle.compare.specs.Written.{Written}
use Rattle.compare.proofs.Extended.{Extends, extends_length, put_meets_extends, grown_extends}
use Rattle.compare.proofs.Fronts.{written_at, written_then, written_front, written-short}

module _ {R : Type 0} (inside : R → R → Bool) (meet : R → R → Option R) where
  -- an element read where the list has grown is the one that stood there
  pub read-before : (old ys mid : List R) (n start before b : ℕ) (x : R) → Written old ys (Some n) mid → Extends (take start old) ys → b < before → before ≤ start → start ≤ length old → x ≡ get_or mid b x → x ≡ get_or (take before old) b x
  read-before old ys mid n start before b x w e h k fits read =
      let long = length-take start old in
      let low : b < length (take start old) = omega arith in
      let under : b < start = omega arith in
      read ∙ written_at old (take start old) ys n mid b x w e low ∙ get_or-take start old b x under ∙ sym (get_or-take before old b x h)

  pub grown-ends : (k a : ℕ) (xs : List R) → length xs ≤ a → grown inside meet k a xs ≡ xs
  grown-ends zero a xs h = refl
  grown-ends (suc k) a xs h = ap (λ rest. elim rest [ [] ↦ xs | r ∷ more ↦ grown inside meet k (suc a) (put_meets inside meet r (take a xs) xs) ]) (drop_all a xs h)

  pub grown-turn : (k a : ℕ) (xs : List R) (r : R) → a < length xs → r ≡ get_or xs a r → grown inside meet (suc k) a xs ≡ grown inside meet k (a + 1) (put_meets inside meet r (take a xs) xs)
  grown-turn k a xs r h e =
      ap (λ rest. elim rest [ [] ↦ xs | q ∷ more ↦ grown inside meet k (suc a) (put_meets inside meet q (take a xs) xs) ]) (drop_more xs a r h)
      ∙ ap (λ q. grown inside meet k (suc a) (put_meets inside meet q (take a xs) xs)) (sym e)
      ∙ ap (λ m. grown inside meet k m (put_meets inside meet r (take a xs) xs)) (sym (add-one a))

  -- one turn over the first n places
  pub grown-more : (turns a n : ℕ) (places : List R) (r : R) → a < n → n ≤ length places → a < turns → r ≡ get_or places a r → (left : ℕ) → left + 1 + a ≡ turns → (all : ℕ) → all + a ≡ turns → grown inside meet all a (take n places) ≡ grown inside meet left (a + 1) (put_meets inside meet r (take a places) (take n places))
  grown-more turns a n places r low fits some read left e all f =
      let one : all ≡ suc left = omega arith in
      let long = length-take n places in
      let inner : a < length (take n places) = omega arith in
      let behind : a ≤ n = omega arith in
      ap (λ k. grown inside meet k a (take n places)) one
      ∙ grown-turn left a (take n places) r inner (read ∙ sym (get_or-take n places a r low))
      ∙ ap (λ front. grown inside meet left (a + 1) (put_meets inside meet r front (take n places))) (take-take a n places behind)

-- one turn of a list that grows: its meets of the region at a place are put, and the turns that are left lead to the whole list
module _ {R : Type 0} (inside : R → R → Bool) (meet : R → R → Option R) (before mid after : Growing R) (place : ℕ) (sofar : Grows before (so_far mid) (Some tt) mid) (left : grown inside meet (length before.places.now - place) place (so_far mid) ≡ grown inside meet (length before.places.now) 0 (so_far before)) where
  abbrev whole-list : List R
  whole-list = grown inside meet (length before.places.now) 0 (so_far before)

  -- no region is left whose meets are not put
  pub grown_out : mid.count ≤ place → Grows before whole-list (Some tt) mid
  grown_out h =
      let ended = grown-ends inside meet (length before.places.now - place) place (so_far mid) (omega (arith, length-take mid.count mid.places.now)) in
      subst (λ l. Grows before l (Some tt) mid) (sym ended ∙ left) sofar

  module _ (region : R) (told : Option (Unit {0})) (low : place < mid.count) (turn : Grows mid (put_meets inside meet (get_or mid.places.now place region) (take place mid.places.now) (so_far mid)) told after) where
    abbrev turned-list : List R
    turned-list = put_meets inside meet (get_or mid.places.now place region) (take place mid.places.now) (so_far mid)

    turned : Written before.places.now turned-list (option_map (λ _. after.count) told) after.places.now
    turned = written_then before.places.now (so_far mid) mid.count mid.places.now turned-list (option_map (λ _. after.count) told) after.places.now sofar.written (extends_length _ _ (put_meets_extends inside meet (get_or mid.places.now place region) (take place mid.places.now) (so_far mid))) turn.written

    lender : after.places.ghost_name ≡ before.places.ghost_name
    lender = turn.lender ∙ sofar.lender

    leads : grown inside meet (length before.places.now - (place + 1)) (place + 1) turned-list ≡ whole-list
    leads =
        let some : place < length before.places.now = omega (arith, sofar.written.1) in
        let read = get_or_default mid.places.now place region _ (omega (arith, mid.fits)) in
        sym (grown-more inside meet (length before.places.now) place mid.count mid.places.now (get_or mid.places.now place region) low mid.fits some read (length before.places.now - (place + 1)) (omega arith) (length before.places.now - place) (omega arith)) ∙ left

    pub grown_over : (answer : Option (Unit {0})) → told ≡ None → answer ≡ None → Grows before whole-list answer after
    grown_over answer a b =
        let short = subst (λ o. Written before.places.now turned-list (option_map (λ _. after.count) o) after.places.now) a turned in
        let over = written-short before.places.now _ _ after.places.now short (grown_extends inside meet (length before.places.now - (place + 1)) (place + 1) turned-list) in
        subst (λ o. Grows before whole-list o after) (sym b) (record { written = subst (λ l. Written before.places.now l None after.places.now) leads over; lender = lender })

    pub grown_on : told ≡ Some tt → (place + 1 ≤ after.count) × Grows before (so_far after) (Some tt) after × (grown inside meet (length before.places.now - (place + 1)) (place + 1) (so_far after) ≡ whole-list)
    grown_on a =
        let w = subst (λ o. Written before.places.now turned-list (option_map (λ _. after.count) o) after.places.now) a turned in
        let front = written_front before.places.now turned-list after.count after.places.now w in
        let longer = extends_length _ _ (put_meets_extends inside meet (get_or mid.places.now place region) (take place mid.places.now) (so_far mid)) in (
          omega (arith, w.0, longer, length-take mid.count mid.places.now, mid.fits),
          record { written = subst (λ l. Written before.places.now l (Some after.count) after.places.now) (sym front) w; lender = lender },
          ap (grown inside meet (length before.places.now - (place + 1)) (place + 1)) front ∙ leads,
        )
