-- Being inside and meets, by the laws of a family: regions inside each other are equal, so a region stands when it is listed.
use Rattle.std.proofs.Common.{◌≡◌, ℕ, Bool, true, false, not, ◌&&◌, List, Some, None, Option, sym, refl, ap, ◌∙◌}
use mathlib.Core.List.{Memᴰ}
use Rattle.std.proofs.lemmas.Bool.{and_from, and_parts, not-true, both_ways}
use Rattle.std.proofs.lemmas.Bool.Decides.{same_from_decides}
use Rattle.family.specs.Families.{FamilyLaws}
use Rattle.family.specs.declared.edges.Edge.{Edge}
use Rattle.compare.specs.Cells.{strictly}
use Rattle.compare.specs.Regions.{same, stands}
use Rattle.compare.proofs.Members.{any_from, any_by}

-- two tests that pass together are equal
pub same_test : (r s : Bool) → (r ≡ true → s ≡ true) → (s ≡ true → r ≡ true) → r ≡ s
same_test r s h k = same_from_decides {P = s ≡ true} r s (h, k) ((λ t. t), (λ t. t))

module _ {R P : Type 0} {whole : R} {first : P} {axes : ℕ} {holds : R → P → Bool} {inside : R → R → Bool} {meet : R → R → Option R} {shifted : P → ℕ → Edge → R → P} (laws : FamilyLaws whole first axes holds inside meet shifted) where
  pub inside_itself : (a : R) → inside a a ≡ true
  inside_itself a = laws.holds-inside a a (λ p h. h)

  pub inside_on : (a b c : R) → inside a b ≡ true → inside b c ≡ true → inside a c ≡ true
  inside_on a b c h k = laws.holds-inside a c (λ p t. laws.inside-holds b c k p (laws.inside-holds a b h p t))

  pub inside_both : (a b : R) → inside a b ≡ true → inside b a ≡ true → a ≡ b
  inside_both a b h k = laws.same_points a b (λ p. same_test (holds a p) (holds b p) (laws.inside-holds a b h p) (laws.inside-holds b a k p))

  -- strictly inside, through a region between
  pub strictly_on : (a b c : R) → strictly inside a b ≡ true → strictly inside b c ≡ true → strictly inside a c ≡ true
  strictly_on a b c h k =
      let ab = and_parts (inside a b) (not (inside b a)) h in
      let bc = and_parts (inside b c) (not (inside c b)) k in
      and_from (inside a c) (not (inside c a)) (inside_on a b c ab.0 bc.0) (apart (inside c a) refl bc.0 (not-true (inside b a) ab.1))
    where
      apart : (t : Bool) → inside c a ≡ t → inside b c ≡ true → inside b a ≡ false → not t ≡ true
      apart true ca bc out = absurd (both_ways (inside b a) out (inside_on b c a bc ca))
      apart false ca bc out = refl

  pub strictly-never : (a : R) → strictly inside a a ≡ false
  strictly-never a = ap (λ t. t && not t) (inside_itself a)

  -- a meet holds a point of both and is inside both
  module _ (a b m : R) (is : meet a b ≡ Some m) where
    pub meet_left : inside m a ≡ true
    meet_left = laws.holds-inside m a (λ p h. (and_parts (holds a p) (holds b p) (sym (laws.meet-holds a b m is p) ∙ h)).0)

    pub meet_right : inside m b ≡ true
    meet_right = laws.holds-inside m b (λ p h. (and_parts (holds a p) (holds b p) (sym (laws.meet-holds a b m is p) ∙ h)).1)

    pub meet_has : (p : P) → holds a p ≡ true → holds b p ≡ true → holds m p ≡ true
    meet_has p h k = laws.meet-holds a b m is p ∙ and_from (holds a p) (holds b p) h k

  -- two regions with a point in common have a meet
  pub meet-found : (a b : R) (p : P) → holds a p ≡ true → holds b p ≡ true → (m : R) × (meet a b ≡ Some m)
  meet-found a b p h k = by (meet a b) refl
    where
      by : (o : Option R) → meet a b ≡ o → (m : R) × (meet a b ≡ Some m)
      by None e = absurd (laws.no_meet a b e p h k)
      by (Some m) e = (m, e)

  -- the order of two regions does not matter to their meet
  pub meet-turned : (a b m : R) → meet a b ≡ Some m → meet b a ≡ Some m
  meet-turned a b m is =
      let q = laws.inhabited m in
      let n = meet-found b a q.0 (laws.inside-holds m b (meet_right a b m is) q.0 q.1) (laws.inside-holds m a (meet_left a b m is) q.0 q.1) in
      let mn = laws.holds-inside m n.0 (λ p h. meet_has b a n.0 n.1 p (laws.inside-holds m b (meet_right a b m is) p h) (laws.inside-holds m a (meet_left a b m is) p h)) in
      let nm = laws.holds-inside n.0 m (λ p h. meet_has a b m is p (laws.inside-holds n.0 a (meet_right b a n.0 n.1) p h) (laws.inside-holds n.0 b (meet_left b a n.0 n.1) p h)) in
      n.1 ∙ ap Some (inside_both n.0 m nm mn)

  -- the meet of a region with itself
  pub meet_itself : (a m : R) → meet a a ≡ Some m → m ≡ a
  meet_itself a m is = inside_both m a (meet_left a a m is) (laws.holds-inside a m (λ p h. meet_has a a m is p h h))

  -- a region stands when it is listed
  pub stands-listed : (r : R) (xs : List R) → stands inside r xs ≡ true → Memᴰ r xs
  stands-listed r xs t =
      let s = any_from (same inside r) xs t in
      let both = and_parts (inside r s.0) (inside s.0 r) s.2 in
      rw (inside_both r s.0 both.0 both.1) s.1

  pub listed-stands : (r : R) (xs : List R) → Memᴰ r xs → stands inside r xs ≡ true
  listed-stands r xs m = any_by (same inside r) r xs m (and_from (inside r r) (inside r r) (inside_itself r) (inside_itself r))
