-- An ordered axis on which each region has a near and a far edge. The last edge that is not above a number
-- stands for the number: no edge tells the two apart.
use Rattle.std.specs.Prelude.{◌≡◌, ℕ, ◌<◌, ◌≤◌, Bool, false, cond, ◌&&◌, leb, List, [], ◌∷◌, nat_le, nat_lt, refl}
use Rattle.std.proofs.Common.{ap, ⊎_elim, zero-le, arith}
use mathlib.Core.List.{Memᴰ}
use Rattle.std.proofs.lemmas.Bool.{leb-true, leb-false, ltb-true, lt-ltb, and_parts, and_cases, cond_both, cond-true}
use Rattle.family.specs.declared.edges.Edge.{Edge}
use Rattle.family.specs.declared.edges.Edge.TheVariants.{Near, Far}
use Rattle.family.specs.Families.{Choice, still, toward, FromList}

-- a number moved to an edge; a far edge that is not below the end of the axis leaves it
abbrev pub to_edge : (end near far : ℕ) → Edge → ℕ → ℕ
to_edge end near far Near v = near
to_edge end near far Far v = cond (nat_lt far end) far v

pub edge_below : (end near far : ℕ) (e : Edge) (v : ℕ) → near < end → v < end → to_edge end near far e v < end
edge_below end near far Near v hn hv = hn
edge_below end near far Far v hn hv = cond_both (nat_lt far end) far v (λ x. x < end) (ltb-true far end) (λ _. hv)

module _ {R : Type 0} (near far : R → ℕ) where
  -- where a choice leads from the beginning of the axis
  abbrev pub edge_of : Choice R → ℕ
  edge_of still = 0
  edge_of (toward Near r) = near r
  edge_of (toward Far r) = far r

  -- an edge below the end of the axis is reached
  pub edge_reached : (end : ℕ) (e : Edge) (r : R) (v : ℕ) → edge_of (toward e r) < end → to_edge end (near r) (far r) e v ≡ edge_of (toward e r)
  edge_reached end Near r v h = refl
  edge_reached end Far r v h = cond-true (nat_lt (far r) end) (far r) v (lt-ltb (far r) end h)

  -- the choice leads to the last edge that is not above v
  pub record LastEdge (v : ℕ) (rs : List R) (c : Choice R) : Type 0 where
    pub named : FromList rs c
    pub not_above : edge_of c ≤ v
    pub near_passed : (r : R) → Memᴰ r rs → near r ≤ v → near r ≤ edge_of c
    pub far_passed : (r : R) → Memᴰ r rs → far r ≤ v → far r ≤ edge_of c

  abbrev is_later : ℕ → Choice R → Choice R → Bool
  is_later v c d = nat_le (edge_of d) v && nat_le (edge_of c) (edge_of d)

  -- the later of two edges, if it is not above v
  abbrev later : ℕ → Choice R → Choice R → Choice R
  later v c d = cond (is_later v c d) d c

  record Kept (v : ℕ) (c d e : Choice R) : Type 0 where
    not_above : edge_of e ≤ v
    first : edge_of c ≤ edge_of e
    second : edge_of d ≤ v → edge_of d ≤ edge_of e

  later-kept : (v : ℕ) (c d : Choice R) → edge_of c ≤ v → Kept v c d (later v c d)
  later-kept v c d h =
      cond_both (is_later v c d) d c (Kept v c d)
      (λ t. let parts = and_parts (nat_le (edge_of d) v) (nat_le (edge_of c) (edge_of d)) t in
      record { not_above = leb-true _ _ parts.0; first = leb-true _ _ parts.1; second = λ le. omega arith })
      (λ f. record {
        not_above = h;
        first = omega arith;
        second = λ le. ⊎_elim (λ (x : leb (edge_of d) v ≡ false). absurd (omega (arith, leb-false (edge_of d) v x)))
            (λ (y : leb (edge_of c) (edge_of d) ≡ false). omega (arith, leb-false (edge_of c) (edge_of d) y))
            (and_cases (nat_le (edge_of d) v) (nat_le (edge_of c) (edge_of d)) f);
      })

  named_more : (r : R) (rs : List R) (c : Choice R) → FromList rs c → FromList (r ∷ rs) c
  named_more r rs still h = tt
  named_more r rs (toward e q) h = mathlib.Core.List.Memᴰ.tail h

  -- one region more: its edges are taken if they come later
  edge_more : (v : ℕ) (r : R) (rs : List R) (c : Choice R) → LastEdge v rs c → LastEdge v (r ∷ rs) (later v (later v c (toward Near r)) (toward Far r))
  edge_more v r rs c k =
      let n = later v c (toward Near r) in
      let kn = later-kept v c (toward Near r) k.not_above in
      let kf = later-kept v n (toward Far r) kn.not_above in
      let here : Memᴰ r (r ∷ rs) = mathlib.Core.List.Memᴰ.head refl in
      record {
        named = cond_both (is_later v n (toward Far r)) (toward Far r) n (FromList (r ∷ rs)) (λ _. here)
            (λ _. cond_both (is_later v c (toward Near r)) (toward Near r) c (FromList (r ∷ rs)) (λ _. here)
            (λ _. named_more r rs c k.named));
        not_above = kf.not_above;
        near_passed = λ q m le. ⊎_elim
            (λ (e : q ≡ r). let same = ap near e in
            let s : near r ≤ edge_of n = kn.second (omega arith) in
            omega (arith, kf.first))
            (λ (m' : Memᴰ q rs). omega (arith, k.near_passed q m' le, kn.first, kf.first)) (mathlib.Core.List.Memᴰ.cases_cons m);
        far_passed = λ q m le. ⊎_elim
            (λ (e : q ≡ r). let same = ap far e in
            let s : far r ≤ edge_of (later v n (toward Far r)) = kf.second (omega arith) in
            omega arith)
            (λ (m' : Memᴰ q rs). omega (arith, k.far_passed q m' le, kn.first, kf.first)) (mathlib.Core.List.Memᴰ.cases_cons m);
      }

  pub last_edge : (v : ℕ) (rs : List R) → (c : Choice R) × LastEdge v rs c
  last_edge v [] = (
    still,
    record {
      named = tt;
      not_above = zero-le;
      near_passed = λ r m _. absurd (mathlib.Core.List.Memᴰ.not-nil m);
      far_passed = λ r m _. absurd (mathlib.Core.List.Memᴰ.not-nil m);
    },
  )
  last_edge v (r ∷ rs) =
      let (c, k) = last_edge v rs in (later v (later v c (toward Near r)) (toward Far r), edge_more v r rs c k)
