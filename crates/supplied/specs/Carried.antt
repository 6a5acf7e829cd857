-- A family carried over to types with the same regions and the same points: its laws hold there too.
use Rattle.std.specs.Prelude.{◌≡◌, ℕ, ◌+◌, Bool, List, [], ◌∷◌, map, Some, None, Option, option_map, refl}
use Rattle.std.proofs.Common.{sym, ap, ◌∙◌}
use Rattle.family.specs.declared.edges.Edge.{Edge}
use Rattle.family.specs.Families.{FamilyLaws, Choice, still, toward, moved, walked}
use Rattle.supplied.specs.Walks.{seen, reached_through}

mapped-some : {A B : Type 0} (f : A → B) (o : Option A) (b : B) → option_map f o ≡ Some b → (a : A) × (o ≡ Some a) × (f a ≡ b)
mapped-some f (Some a) b h = (a, refl, cc)
mapped-some f None b h = absurd (cc)

mapped-none : {A B : Type 0} (f : A → B) (o : Option A) → option_map f o ≡ None → o ≡ None
mapped-none f (Some a) h = cc
mapped-none f None h = refl

-- one type has the same elements as another
pub record Same (A B : Type 0) : Type 0 where
  pub to : A → B
  pub back : B → A
  pub there : (b : B) → to (back b) ≡ b
  pub here : (a : A) → back (to a) ≡ a

module _ {R S : Type 0} (regions : Same S R) where
  abbrev pub carried_inside : (R → R → Bool) → S → S → Bool
  carried_inside inside a b = inside (regions.to a) (regions.to b)

  abbrev pub carried_meet : (R → R → Option R) → S → S → Option S
  carried_meet meet a b = option_map regions.back (meet (regions.to a) (regions.to b))

module _ {R P S Q : Type 0} (regions : Same S R) (points : Same Q P) where
  abbrev pub carried_holds : (R → P → Bool) → S → Q → Bool
  carried_holds holds s q = holds (regions.to s) (points.to q)

  abbrev pub carried_shifted : (P → ℕ → Edge → R → P) → Q → ℕ → Edge → S → Q
  carried_shifted shifted q axis e s = points.back (shifted (points.to q) axis e (regions.to s))

  module _ (shifted : P → ℕ → Edge → R → P) where
    moved_to : (q : Q) (axis : ℕ) (c : Choice S) → points.to (moved (carried_shifted shifted) q axis c) ≡ moved shifted (points.to q) axis (seen regions.to c)
    moved_to q axis still = refl
    moved_to q axis (toward e s) = points.there (shifted (points.to q) axis e (regions.to s))

    walked_to : (q : Q) (axis : ℕ) (cs : List (Choice S)) → points.to (walked (carried_shifted shifted) q axis cs) ≡ walked shifted (points.to q) axis (map (seen regions.to) cs)
    walked_to q axis [] = refl
    walked_to q axis (c ∷ cs) =
        walked_to (moved (carried_shifted shifted) q axis c) (axis + 1) cs
        ∙ ap (λ (p : P). walked shifted p (axis + 1) (map (seen regions.to) cs)) (moved_to q axis c)

  module _ {whole : R} {first : P} {axes : ℕ} {holds : R → P → Bool} {inside : R → R → Bool} {meet : R → R → Option R} {shifted : P → ℕ → Edge → R → P} (laws : FamilyLaws whole first axes holds inside meet shifted) where
    at_point : (f : P → Bool) (q : P) → f (points.to (points.back q)) ≡ f q
    at_point f q = ap f (points.there q)

    pub carried_laws : FamilyLaws (regions.back whole) (points.back first) axes (carried_holds holds) (carried_inside regions inside) (carried_meet regions meet) (carried_shifted shifted)
    carried_laws = record {
      inhabited = λ s. let (p, h) = laws.inhabited (regions.to s) in
          (points.back p, at_point (holds (regions.to s)) p ∙ h);
      everything = λ q. ap (λ (r : R). holds r (points.to q)) (regions.there whole) ∙ laws.everything (points.to q);
      inside-holds = λ a b h q. laws.inside-holds (regions.to a) (regions.to b) h (points.to q);
      holds-inside = λ a b all. laws.holds-inside (regions.to a) (regions.to b)
          (λ p h. sym (at_point (holds (regions.to b)) p) ∙ all (points.back p) (at_point (holds (regions.to a)) p ∙ h));
      same_points = λ a b same. sym (regions.here a)
          ∙ ap regions.back (laws.same_points (regions.to a) (regions.to b) (λ p. sym (at_point (holds (regions.to a)) p) ∙ same (points.back p) ∙ at_point (holds (regions.to b)) p))
          ∙ regions.here b;
      meet-holds = λ a b m h q. let (r, e, f) = mapped-some regions.back (meet (regions.to a) (regions.to b)) m h in
          ap (λ (x : R). holds x (points.to q)) (ap regions.to (sym f) ∙ regions.there r)
          ∙ laws.meet-holds (regions.to a) (regions.to b) r e (points.to q);
      no_meet = λ a b h q. laws.no_meet (regions.to a) (regions.to b) (mapped-none regions.back (meet (regions.to a) (regions.to b)) h) (points.to q);
      axes_low = laws.axes_low;
      axes_high = laws.axes_high;
      other_axis = λ q axis e s h. ap points.back (laws.other_axis (points.to q) axis e (regions.to s) h) ∙ points.here q;
      reached = λ few q ss. let (cs, len, named, same) = reached_through laws regions.to few (points.to q) ss in (
        cs,
        len,
        named,
        λ s m. ap (holds (regions.to s))
            (walked_to shifted (points.back first) 1 cs ∙ ap (λ (p : P). walked shifted p 1 (map (seen regions.to) cs)) (points.there first))
            ∙ same s m,
      );
    }
