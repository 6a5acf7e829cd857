-- Shifts of a point of prefix ranges: the last edge along each axis leads to a point held by the same ranges of a list.
use Rattle.std.specs.Prelude.{◌≡◌, ℕ, ◌+◌, ◌-◌, ◌^◌, ◌<◌, ◌≤◌, ◌⊎◌, List, [], ◌∷◌, length, ◌≢◌, refl}
use Rattle.std.proofs.Common.{ap, ◌∙◌, ⊎_elim, arith, pow_pos}
use mathlib.Core.List.{Memᴰ}
use Rattle.std.proofs.lemmas.Bool.{ne_eqb, cases_lt}
use Rattle.std.proofs.lemmas.Bool.Decides.{same_from_decides, Decides-like}
use Rattle.family.specs.declared.edges.Edge.{Edge}
use Rattle.family.specs.Families.{Choice, still, toward, moved, walked, AllFrom}
use Rattle.supplied.specs.Edges.{edge_of, LastEdge, last_edge}
use Rattle.supplied.specs.Multiples.{cut_down, cut_below, cut_keeps, finer_multiple, finer_power, sum_multiple}
use Rattle.supplied.specs.Ranges.{Range, Point, first_route, range_holds, range_shifted}
use Rattle.supplied.specs.RangeHolds.{Held, decides_held}

module _ (W : ℕ) where
  -- the edges of a range along the two axes
  abbrev pub low : Range W → ℕ
  low r = r.low

  abbrev pub past : Range W → ℕ
  past r = r.high + 1

  abbrev pub begin : Range W → ℕ
  begin r = r.address

  abbrev pub end : Range W → ℕ
  end r = r.address + 2 ^ (W - r.length)

  length_leaves_zero : (p : Point W) (c : Choice (Range W)) → p.address ≡ 0 → (moved (range_shifted W) p 1 c).address ≡ 0
  length_leaves_zero p still z = z
  length_leaves_zero p (toward e r) z = omega arith

  address_leaves_length : (p : Point W) (c : Choice (Range W)) → (moved (range_shifted W) p 2 c).length ≡ p.length
  address_leaves_length p still = refl
  address_leaves_length p (toward e r) = refl

  pub elsewhere : (p : Point W) (axis : ℕ) (e : Edge) (r : Range W) → (axis ≢ 1) → (axis ≢ 2) → range_shifted W p axis e r ≡ p
  elsewhere p axis e r a b =
      let one = ne_eqb axis 1 a in
      let two = ne_eqb axis 2 b in
      cc

  pub other_axis : (p : Point W) (axis : ℕ) (e : Edge) (r : Range W) → (axis ≡ 0) ⊎ ((2 < axis) ⊎ (◌≡◌ {A = ℕ} 2 5)) → range_shifted W p axis e r ≡ p
  other_axis p axis e r h = elsewhere p axis e r (λ x. omega arith) (λ x. omega arith)

  -- q stands at the last edges that are not above p
  pub record AtEdges (rs : List (Range W)) (p q : Point W) (c d : Choice (Range W)) : Type 0 where
    along_length_lem : LastEdge low past p.length rs c
    along_address_lem : LastEdge begin end p.address rs d
    length : q.length ≡ edge_of low past c
    address : q.address ≡ cut_down (2 ^ (W - edge_of low past c)) (edge_of begin end d)

  -- what is cut to a length that is no shorter than a prefix stays on its side of the prefix's two edges
  begin-kept : (r : Range W) (n x : ℕ) → r.length ≤ n → begin r ≤ x → begin r ≤ cut_down (2 ^ (W - n)) x
  begin-kept r n x le h =
      cut_keeps (2 ^ (W - n)) x (begin r) (pow_pos (W - n)) (finer_multiple (begin r) (W - n) (W - r.length) (omega arith) r.zeros)
      h

  end_kept : (r : Range W) (n x : ℕ) → r.length ≤ n → end r ≤ x → end r ≤ cut_down (2 ^ (W - n)) x
  end_kept r n x le h =
      let finer : W - n ≤ W - r.length = omega arith in
      cut_keeps (2 ^ (W - n)) x (end r) (pow_pos (W - n))
      (sum_multiple (2 ^ (W - n)) (begin r) (2 ^ (W - r.length)) (finer_multiple (begin r) (W - n) (W - r.length) finer r.zeros) (finer_power (W - n) (W - r.length) finer))
      h

  module _ (rs : List (Range W)) (p q : Point W) (c d : Choice (Range W)) (k : AtEdges rs p q c d) (r : Range W) (m : Memᴰ r rs) where
    reached-held : Held W r q → Held W r p
    reached-held h =
        let n = edge_of low past c in
        let y = edge_of begin end d in
        let le : r.length ≤ n = omega (arith, r.from, h.low, k.length) in
        record {
          low = omega (arith, h.low, k.length, k.along_length_lem.not_above);
          high = ⊎_elim (λ (lt : r.high < p.length). absurd (omega (arith, k.along_length_lem.far_passed r m (omega arith), h.high, k.length)))
              (λ (ge : p.length ≤ r.high). ge) (cases_lt r.high p.length);
          from = omega (arith, h.from, k.address, cut_below (2 ^ (W - n)) y, k.along_address_lem.not_above);
          upto = ⊎_elim (λ (lt : p.address < end r). lt)
              (λ (ge : end r ≤ p.address). absurd (omega (arith, end_kept r n y le (k.along_address_lem.far_passed r m ge), h.upto, k.address)))
              (cases_lt p.address (end r));
        }

    held-reached : Held W r p → Held W r q
    held-reached h =
        let n = edge_of low past c in
        let y = edge_of begin end d in
        let lo : r.low ≤ n = k.along_length_lem.near_passed r m h.low in
        record {
          low = omega (arith, k.length);
          high = omega (arith, h.high, k.length, k.along_length_lem.not_above);
          from = omega (arith, begin-kept r n y (omega (arith, r.from)) (k.along_address_lem.near_passed r m h.from), k.address);
          upto = omega (arith, h.upto, k.address, cut_below (2 ^ (W - n)) y, k.along_address_lem.not_above);
        }

    same-held : range_holds W r q ≡ range_holds W r p
    same-held =
        same_from_decides (range_holds W r q) (range_holds W r p)
        (Decides-like (range_holds W r q) reached-held held-reached (decides_held W r q))
        (decides_held W r p)

  -- the first point after one choice for the length and one for the address
  abbrev pub walk : Choice (Range W) → Choice (Range W) → Point W
  walk c d = walked (range_shifted W) (first_route W) 1 (c ∷ d ∷ [])

  -- where a point at 0 goes to the chosen edge along each axis
  module _ (length-reached : (p : Point W) (c : Choice (Range W)) → p.length ≡ 0 → edge_of low past c ≤ W → (moved (range_shifted W) p 1 c).length ≡ edge_of low past c) (address-reached : (p : Point W) (c : Choice (Range W)) → p.address ≡ 0 → edge_of begin end c < 2 ^ W → (moved (range_shifted W) p 2 c).address ≡ cut_down (2 ^ (W - p.length)) (edge_of begin end c)) where
    pub walk_at_edges : (rs : List (Range W)) (p : Point W) (c d : Choice (Range W)) → LastEdge low past p.length rs c → LastEdge begin end p.address rs d → AtEdges rs p (walk c d) c d
    walk_at_edges rs p c d kc kd =
        let q = moved (range_shifted W) (first_route W) 1 c in
        let n = length-reached (first_route W) c refl (omega (arith, kc.not_above, p.width)) in
        record {
          along_length_lem = kc;
          along_address_lem = kd;
          length = address_leaves_length q d ∙ n;
          address = address-reached q d (length_leaves_zero (first_route W) c refl) (omega (arith, kd.not_above, p.bound))
              ∙ ap (λ (k : ℕ). cut_down (2 ^ (W - k)) (edge_of begin end d)) n;
        }

    pub reached : (p : Point W) (rs : List (Range W)) → (cs : List (Choice (Range W))) × (length cs ≡ 2) × AllFrom rs cs × ((r : Range W) → Memᴰ r rs → range_holds W r (walked (range_shifted W) (first_route W) 1 cs) ≡ range_holds W r p)
    reached p rs =
        let (c, kc) = last_edge low past p.length rs in
        let (d, kd) = last_edge begin end p.address rs in
        (c ∷ d ∷ [], refl, (kc.named, (kd.named, tt)), same-held rs p (walk c d) c d (walk_at_edges rs p c d kc kd))
