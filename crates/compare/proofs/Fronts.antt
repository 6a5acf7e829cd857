-- Lists written one after the other at the front of lent places.
use Rattle.std.proofs.Common.{◌≡◌, ℕ, ◌+◌, ◌-◌, ◌<◌, ◌≤◌, List, [], ◌∷◌, ◌++◌, length, get_or, take, drop, set, Some, None, fold, Option, sym, ap, ◌∙◌, subst, append_assoc, append-nil, add-one, arith, length-append, length-drop, length-take}
use Rattle.std.proofs.lemmas.List.{take_at, drop_at, drop-drop, take-append-le, get_or_append_left, set_split}
use Rattle.compare.specs.Written.{Written}
use Rattle.std.proofs.lemmas.List.Sums.{fold_more}
use Rattle.compare.proofs.Extended.{Extends, extends_length, folded_front}

module _ {X : Type 0} where
  pub written_front : (old xs : List X) (n : ℕ) (new : List X) → Written old xs (Some n) new → take n new ≡ xs
  written_front old xs n new w = ap (take n) w.2 ∙ take_at xs (drop n old) n (sym w.0)

  pub written-length : (old xs : List X) (n : ℕ) (new : List X) → Written old xs (Some n) new → length new ≡ length old
  written-length old xs n new w = omega (arith, ap length w.2, length-append xs (drop n old), length-drop n old, w.0, w.1)

  past : (xs old : List X) (n m : ℕ) → length xs ≡ n → n ≤ m → drop m (xs ++ drop n old) ≡ drop m old
  past xs old n m e h =
      let on : n + (m - n) ≡ m = omega arith in
      ap (λ k. drop k (xs ++ drop n old)) (sym on) ∙ sym (drop-drop (m - n) n (xs ++ drop n old)) ∙ ap (drop (m - n)) (drop_at xs (drop n old) n e) ∙ drop-drop (m - n) n old ∙ ap (λ k. drop k old) on

  -- a longer list written over one that stood whole
  pub written_then : (old xs : List X) (n : ℕ) (mid zs : List X) (r : Option ℕ) (new : List X) → Written old xs (Some n) mid → length xs ≤ length zs → Written mid zs r new → Written old zs r new
  written_then old xs n mid zs None new w h v =
      let same = written-length old xs n mid w in
      (omega (arith, v.0), v.1 ∙ ap (λ k. take k zs) same)
  written_then old xs n mid zs (Some m) new w h v =
      let same = written-length old xs n mid w in
      (v.0, omega (arith, v.1), v.2 ∙ ap (λ l. zs ++ l) (ap (drop m) w.2 ∙ past xs old n m (sym w.0) (omega (arith, w.0, v.0))))

  -- a list too long stays so, and its beginning the same, when more is added
  pub written-short : (old xs zs new : List X) → Written old xs None new → Extends xs zs → Written old zs None new
  written-short old xs zs new w e =
      let longer = extends_length xs zs e in
      let within : length old ≤ length xs = omega (arith, w.0) in
      (omega (arith, w.0), w.1 ∙ sym (ap (take (length old)) e.1 ∙ take-append-le (length old) xs e.0 within))

  -- an element of the list's beginning
  pub written_at : (old xs ys : List X) (n : ℕ) (new : List X) (i : ℕ) (d : X) → Written old ys (Some n) new → Extends xs ys → i < length xs → get_or new i d ≡ get_or xs i d
  written_at old xs ys n new i d w e h =
      let longer = extends_length xs ys e in
      let within : i < length ys = omega arith in
      ap (λ l. get_or l i d) w.2 ∙ get_or_append_left ys (drop n old) d i within ∙ ap (λ l. get_or l i d) e.1 ∙ get_or_append_left xs e.0 d i h

  -- one element more behind the first n, and none where every place is taken
  pub written_push : (old : List X) (n : ℕ) (x : X) → n < length old → Written old (take n old ++ (x ∷ [])) (Some (n + 1)) (set old n x)
  written_push old n x h =
      let front = length-take n old in
      (omega (arith, length-append (take n old) (x ∷ [])), omega arith, set_split old n x h ∙ ap (λ k. take n old ++ (x ∷ drop k old)) (sym (add-one n)) ∙ sym (append_assoc (take n old) (x ∷ []) (drop (n + 1) old)))

  -- a step that only adds at the end, taken on what stands
  pub written_on : (f : List X → List X) → ((xs : List X) → Extends xs (f xs)) → (old xs : List X) (n : ℕ) (mid : List X) (r : Option ℕ) (new : List X) → Written old xs (Some n) mid → Written mid (f (take n mid)) r new → Written old (f xs) r new
  written_on f adds old xs n mid r new w v =
      let here : Written mid (f xs) r new = subst (λ l. Written mid (f l) r new) (written_front old xs n mid w) v in
      written_then old xs n mid (f xs) r new w (extends_length _ _ (adds xs)) here

  -- a fold of steps that only add at the end, one step on
  module _ {Y : Type 0} (f : List X → Y → List X) (adds : (xs : List X) (y : Y) → Extends xs (f xs y)) (old start : List X) (ys : List Y) where
    pub written_step : (i : ℕ) (y : Y) (n : ℕ) (mid : List X) (r : Option ℕ) (new : List X) → Written old (fold f start (take i ys)) (Some n) mid → i < length ys → y ≡ get_or ys i y → Written mid (f (take n mid) y) r new → Written old (fold f start (take (i + 1) ys)) r new
    written_step i y n mid r new w h e v =
        let sofar = fold f start (take i ys) in
        let next : fold f start (take (i + 1) ys) ≡ f sofar y = fold_more f start ys i y h ∙ ap (f sofar) (sym e) in
        subst (λ l. Written old l r new) (sym next) (written_on (λ xs. f xs y) (λ xs. adds xs y) old sofar n mid r new w v)

    pub written_stop : (i : ℕ) (new : List X) → Written old (fold f start (take i ys)) None new → Written old (fold f start ys) None new
    written_stop i new w = written-short old _ _ new w (folded_front f adds start i ys)

  -- the first element, and behind it a part that was lent and written
  pub written_behind : (x : X) (part : List X) (n : ℕ) → take (n + 1) (x ∷ (part ++ [])) ≡ x ∷ take n part
  written_behind x part n = ap (λ k. take k (x ∷ (part ++ []))) (add-one n) ∙ ap (λ l. x ∷ take n l) (append-nil part)
