-- Choices along axes, seen through a function on the regions, and walks in two parts.
use Rattle.std.specs.Prelude.{◌≡◌, ℕ, ◌+◌, ◌≤◌, Bool, List, [], ◌∷◌, ◌++◌, map, length, Option, refl}
use Rattle.std.proofs.Common.{sym, ap, ap₂, ◌∙◌, arith}
use mathlib.Core.List.Memᴰ
use mathlib.Core.List.{Memᴰ}
use Rattle.std.proofs.lemmas.List.{length-map}
use Rattle.family.specs.declared.edges.Edge.{Edge}
use Rattle.family.specs.Families.{Choice, still, toward, moved, walked, FromList, AllFrom, FamilyLaws}

module _ {R S : Type 0} (f : R → S) where
  -- the choice that one of regions of R makes among their images
  abbrev pub seen : Choice R → Choice S
  seen still = still
  seen (toward e r) = toward e (f r)

  lifted_choice : (rs : List R) (c : Choice S) → FromList (map f rs) c → (d : Choice R) × FromList rs d × (seen d ≡ c)
  lifted_choice rs still h = (still, tt, refl)
  lifted_choice rs (toward e s) h = let (r, m, same) = Memᴰ.of_map f rs h in (toward e r, m, ap (toward e) same)

  -- choices among the images of a list come from choices among the list
  lifted : (rs : List R) (cs : List (Choice S)) → AllFrom (map f rs) cs → (ds : List (Choice R)) × AllFrom rs ds × (map seen ds ≡ cs)
  lifted rs [] h = ([], tt, refl)
  lifted rs (c ∷ cs) h =
      let (d, k, e) = lifted_choice rs c h.0 in
      let (ds, ks, es) = lifted rs cs h.1 in
      (d ∷ ds, (k, ks), ap₂ (λ (x : Choice S) (xs : List (Choice S)). x ∷ xs) e es)

pub all_append : {R : Type 0} (rs : List R) (cs ds : List (Choice R)) → AllFrom rs cs → AllFrom rs ds → AllFrom rs (cs ++ ds)
all_append rs [] ds h k = k
all_append rs (c ∷ cs) ds h k = (h.0, all_append rs cs ds h.1 k)

pub walked-append : {R P : Type 0} (shifted : P → ℕ → Edge → R → P) (p : P) (axis : ℕ) (cs ds : List (Choice R)) → walked shifted p axis (cs ++ ds) ≡ walked shifted (walked shifted p axis cs) (axis + length cs) ds
walked-append shifted p axis [] ds = let e : axis ≡ axis + 0 = omega arith in ap (λ (a : ℕ). walked shifted p a ds) e
walked-append shifted p axis (c ∷ cs) ds =
    let e : axis + 1 + length cs ≡ axis + length (c ∷ cs) = omega arith in
    walked-append shifted (moved shifted p axis c) (axis + 1) cs ds
    ∙ ap (λ (a : ℕ). walked shifted (walked shifted (moved shifted p axis c) (axis + 1) cs) a ds) e

-- the regions of a list may be given through a function: choices among the list itself do
module _ {T R P : Type 0} {whole : R} {first : P} {axes : ℕ} {holds : R → P → Bool} {inside : R → R → Bool} {meet : R → R → Option R} {shifted : P → ℕ → Edge → R → P} (laws : FamilyLaws whole first axes holds inside meet shifted) (f : T → R) where
  abbrev Reached : P → List T → List (Choice T) → Type 0
  Reached p ts ds =
      (t : T) → Memᴰ t ts → holds (f t) (walked shifted first 1 (map (seen f) ds)) ≡ holds (f t) p

  lifted-reached : (p : P) (ts : List T) (cs : List (Choice R)) (ds : List (Choice T)) → map (seen f) ds ≡ cs → ((r : R) → Memᴰ r (map f ts) → holds r (walked shifted first 1 cs) ≡ holds r p) → Reached p ts ds
  lifted-reached p ts cs ds e same t m =
      ap (λ (us : List (Choice R)). holds (f t) (walked shifted first 1 us)) e ∙ same (f t) (Memᴰ.map f m)

  pub reached_through : axes ≤ 4 → (p : P) (ts : List T) → (ds : List (Choice T)) × (length ds ≡ axes) × AllFrom ts ds × Reached p ts ds
  reached_through few p ts =
      let (cs, len, all, same) = laws.reached few p (map f ts) in
      let (ds, named, e) = lifted f ts cs all in
      (ds, sym (length-map ds (seen f)) ∙ ap length e ∙ len, named, lifted-reached p ts cs ds e same)
