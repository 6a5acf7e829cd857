-- Meets of given regions, by their points, and that the region list holds all of them and nothing else.
use Rattle.std.proofs.Common.{◌≡◌, ℕ, zero, suc, ◌<◌, ◌≤◌, Bool, true, false, ◌&&◌, List, [], ◌∷◌, ◌++◌, map, length, Some, Option, sym, refl, ap, ◌∙◌, subst, inl, inr}
use mathlib.Core.List.Memᴰ
use mathlib.Core.List.{Memᴰ}
use Rattle.std.specs.List.{AllByRecursion}
use Rattle.std.proofs.ByRecursion.{All-append, All-weaker}
use Rattle.std.proofs.lemmas.Bool.{and_parts}
use Rattle.family.specs.Families.{FamilyLaws}
use Rattle.family.specs.declared.clauses.Clause.{Clause}
use Rattle.family.specs.declared.edges.Edge.{Edge}
use Rattle.compare.specs.Meets.{Once, Belongs, Listed, Outnumber, IsMeet, held_by_all, clause_regions}
use Rattle.compare.specs.Regions.{put_clauses, region_list}
use Rattle.compare.proofs.Closed.{Closed, grown-closed, grown_sound}
use Rattle.compare.proofs.Extended.{extends_on, put_clauses_extends, grown_extends}
use Rattle.compare.proofs.Insides.{meet-found}
use Rattle.compare.proofs.Members.{nothing, all_member, nth_member, member_place}
use Rattle.compare.proofs.Placed.{Sound, extends_member, put_clauses-lists, put_clauses_sound}

and_assoc : (a b c : Bool) → ((a && b) && c) ≡ (a && (b && c))
and_assoc true b c = refl
and_assoc false b c = refl

and_true : (a : Bool) → a ≡ (a && true)
and_true true = refl
and_true false = refl

once_alone : {X : Type 0} (x : X) → Once (x ∷ [])
once_alone x zero zero y e f = refl
once_alone x zero (suc n) y e f = nothing f
once_alone x (suc m) n y e f = nothing e

module _ {R P : Type 0} {whole : R} {first : P} {axes : ℕ} {holds : R → P → Bool} {inside : R → R → Bool} {meet : R → R → Option R} {shifted : P → ℕ → Edge → R → P} (laws : FamilyLaws whole first axes holds inside meet shifted) where
  held-append : (rs ss : List R) (p : P) → held_by_all holds (rs ++ ss) p ≡ (held_by_all holds rs p && held_by_all holds ss p)
  held-append [] ss p = refl
  held-append (r ∷ rs) ss p = ap (λ t. holds r p && t) (held-append rs ss p) ∙ sym (and_assoc (holds r p) (held_by_all holds rs p) (held_by_all holds ss p))

  -- regions with the points of the same parts are equal
  pub same-meet : (parts : List R) (r s : R) → IsMeet holds parts r → IsMeet holds parts s → r ≡ s
  same-meet parts r s e f = laws.same_points r s (λ p. e p ∙ sym (f p))

  module _ (given : List R) where
    -- a meet of given regions, of none the whole region
    abbrev Met : R → Type 0
    Met r = (parts : List R) × AllByRecursion (λ part. Memᴰ part given) parts × IsMeet holds parts r

    met_whole : Met whole
    met_whole = ([], tt, laws.everything)

    met_one : (r : R) → Memᴰ r given → Met r
    met_one r m = (r ∷ [], (m, tt), λ p. and_true (holds r p))

    met-meet : (r s m : R) → Met r → Met s → meet r s ≡ Some m → Met m
    met-meet r s m a b is =
        (a.0 ++ b.0, All-append (λ part. Memᴰ part given) a.0 b.0 a.1 b.1, λ p. laws.meet-holds r s m is p ∙ ap (λ t. t && holds s p) (a.2 p) ∙ ap (λ t. held_by_all holds a.0 p && t) (b.2 p) ∙ sym (held-append a.0 b.0 p))

    met_belongs : (r : R) → Met r → Belongs holds whole given r
    met_belongs r a = by a.0 a.1 a.2
      where
        by : (parts : List R) → AllByRecursion (λ part. Memᴰ part given) parts → IsMeet holds parts r → Belongs holds whole given r
        by [] within is = inl (laws.same_points r whole (λ p. is p ∙ sym (laws.everything p)))
        by (one ∷ others) within is = inr (one, others, within, is)

    belongs_met : (r : R) → Belongs holds whole given r → Met r
    belongs_met r (inl e) = subst Met (sym e) met_whole
    belongs_met r (inr b) = (b.0 ∷ b.1, b.2, b.3)

    -- in a closed list, a meet with a point is listed
    module _ (xs : List R) (closed : Closed laws xs) (first-listed : Memᴰ whole xs) (given-listed : (r : R) → Memᴰ r given → Memᴰ r xs) where
      meet-listed : (parts : List R) → AllByRecursion (λ part. Memᴰ part given) parts → (p : P) → held_by_all holds parts p ≡ true → (r : R) × Memᴰ r xs × IsMeet holds parts r
      meet-listed [] within p t = (whole, first-listed, laws.everything)
      meet-listed (c ∷ cs) within p t =
          let both = and_parts (holds c p) (held_by_all holds cs p) t in
          let rest = meet-listed cs within.1 p both.1 in
          let m = meet-found laws c rest.0 p both.0 (rest.2 p ∙ both.1) in
          (m.0, closed c rest.0 m.0 (given-listed c within.0) rest.1 m.1, λ q. laws.meet-holds c rest.0 m.0 m.1 q ∙ ap (λ t. holds c q && t) (rest.2 q))

      pub met-listed : (r : R) → Met r → Memᴰ r xs
      met-listed r a =
          let q = laws.inhabited r in
          let s = meet-listed a.0 a.1 q.0 (sym (a.2 q.0) ∙ q.1) in
          subst (λ x. Memᴰ x xs) (same-meet a.0 s.0 r s.2 a.2) s.1

  module _ {A : Type 0} (left right : List (Clause R A)) (places : ℕ) where
    abbrev given : List R
    given = clause_regions left right

    abbrev lefts : List R
    lefts = put_clauses inside left (whole ∷ [])

    abbrev base : List R
    base = put_clauses inside right lefts

    abbrev xs : List R
    xs = region_list inside meet places whole left right

    left_given : (c : Clause R A) → Memᴰ c left → Memᴰ c.region given
    left_given c m = Memᴰ.append_left (map (λ c. c.region) right) (Memᴰ.map (λ c. c.region) m)

    right_given : (c : Clause R A) → Memᴰ c right → Memᴰ c.region given
    right_given c m = Memᴰ.append_right (map (λ c. c.region) left) (Memᴰ.map (λ c. c.region) m)

    -- the whole region and all clauses' regions are listed
    pub whole_listed : Memᴰ whole xs
    whole_listed =
        extends_member whole (whole ∷ []) xs
        (extends_on (whole ∷ []) base xs (extends_on (whole ∷ []) lefts base (put_clauses_extends inside left (whole ∷ [])) (put_clauses_extends inside right lefts)) (grown_extends inside meet places 0 base)) (Memᴰ.head refl)

    pub left_listed : (c : Clause R A) → Memᴰ c left → Memᴰ c.region xs
    left_listed c m =
        extends_member c.region lefts xs (extends_on lefts base xs (put_clauses_extends inside right lefts) (grown_extends inside meet places 0 base)) (put_clauses-lists laws left (whole ∷ []) c m)

    pub right_listed : (c : Clause R A) → Memᴰ c right → Memᴰ c.region xs
    right_listed c m = extends_member c.region base xs (grown_extends inside meet places 0 base) (put_clauses-lists laws right lefts c m)

    given-within : (r : R) → Memᴰ r given → Memᴰ r xs
    given-within r m =
        elim (Memᴰ.append_cases (map (λ c. c.region) left) m) [
          | inl a ↦ (let c = Memᴰ.of_map (λ c. c.region) left a in subst (λ x. Memᴰ x xs) c.2 (left_listed c.0 c.1))
          | inr a ↦ (let c = Memᴰ.of_map (λ c. c.region) right a in subst (λ x. Memᴰ x xs) c.2 (right_listed c.0 c.1))
        ]

    all-met : Sound laws (Met given) xs
    all-met =
        grown_sound laws (Met given) (met-meet given) places base
        (put_clauses_sound laws (Met given) right lefts (λ c m. met_one given c.region (right_given c m))
        (put_clauses_sound laws (Met given) left (whole ∷ []) (λ c m. met_one given c.region (left_given c m)) (once_alone whole, (met_whole given, tt))))

    pub list-once : Once xs
    list-once = all-met.0

    pub list_belongs : AllByRecursion (Belongs holds whole given) xs
    list_belongs = All-weaker (Met given) (Belongs holds whole given) (met_belongs given) xs all-met.1

    -- more regions than places
    pub list_outnumbers : places < length xs → Outnumber holds whole given places
    list_outnumbers h = (xs, h, list-once, list_belongs)

    module _ (fits : length xs ≤ places) where
      pub list-closed : Closed laws xs
      list-closed = grown-closed laws places base fits

      pub list-listed : Listed holds whole given xs
      list-listed = record {
        only = λ n r is. all_member (Belongs holds whole given) r xs list_belongs (nth_member xs n r is);
        all = λ r b. member_place r xs (met-listed given xs list-closed whole_listed given-within r (belongs_met given r b));
        once = list-once;
      }
