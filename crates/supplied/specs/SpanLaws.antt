-- Spans of the numbers up to a top are a family.
use Rattle.std.specs.Prelude.{◌≡◌, ℕ, ◌+◌, ◌<◌, ◌≤◌, min, max, true, ◌&&◌, ◌⊎◌, List, [], ◌∷◌, length, Some, None, Decides, ◌≢◌, nat_le, refl}
use Rattle.std.proofs.Common.{sym, ◌∙◌, ⊎_elim, arith}
use mathlib.Core.List.{Memᴰ}
use Rattle.std.proofs.lemmas.Bool.{leb-true, leb-false, le-leb, and_parts, and_from, ne_eqb, cases_lt}
use Rattle.std.proofs.lemmas.Bool.Decides.{same_from_decides, Decides-like, Decides-and}
use Rattle.family.specs.declared.edges.Edge.{Edge}
use Rattle.family.specs.Families.{FamilyLaws, Choice, still, toward, moved, walked, AllFrom}
use Rattle.supplied.specs.Edges.{edge_of, edge_reached, LastEdge, last_edge}
use Rattle.supplied.specs.Making.{if_some, if_none}
use Rattle.supplied.specs.Spans.{same_span, whole_span, first_number, span_holds, span_inside, span_meet, meet_span, span_shifted}
use Rattle.supplied.specs.declared.spans.Span.{Span}
use Rattle.supplied.specs.declared.spans.SpanPoint.{SpanPoint}

module _ (TOP : ℕ) where
  abbrev Held : Span TOP → SpanPoint TOP → Type 0
  Held r p = (r.low ≤ p.value) × (p.value ≤ r.high)

  held : (r : Span TOP) (p : SpanPoint TOP) → span_holds TOP r p ≡ true → Held r p
  held r p h =
      let parts = and_parts (nat_le r.low p.value) (nat_le p.value r.high) h in
      (leb-true r.low p.value parts.0, leb-true p.value r.high parts.1)

  holding : (r : Span TOP) (p : SpanPoint TOP) → Held r p → span_holds TOP r p ≡ true
  holding r p h =
      and_from (nat_le r.low p.value) (nat_le p.value r.high) (le-leb r.low p.value h.0)
      (le-leb p.value r.high h.1)

  decides_held : (r : Span TOP) (p : SpanPoint TOP) → Decides (span_holds TOP r p) (Held r p)
  decides_held r p = (held r p, holding r p)

  -- the two ends of a span are points that it holds
  abbrev bottom : Span TOP → SpanPoint TOP
  bottom r = record { value = r.low; top = omega (arith, r.order, r.top) }

  abbrev summit : Span TOP → SpanPoint TOP
  summit r = record { value = r.high; top = r.top }

  bottom-held : (r : Span TOP) → span_holds TOP r (bottom r) ≡ true
  bottom-held r = holding r (bottom r) (omega (arith, r.order))

  summit-held : (r : Span TOP) → span_holds TOP r (summit r) ≡ true
  summit-held r = holding r (summit r) (omega (arith, r.order))

  abbrev Within : Span TOP → Span TOP → Type 0
  Within a b = (b.low ≤ a.low) × (a.high ≤ b.high)

  within : (a b : Span TOP) → span_inside TOP a b ≡ true → Within a b
  within a b h =
      let parts = and_parts (nat_le b.low a.low) (nat_le a.high b.high) h in
      (leb-true b.low a.low parts.0, leb-true a.high b.high parts.1)

  inside-holds : (a b : Span TOP) → span_inside TOP a b ≡ true → (p : SpanPoint TOP) → span_holds TOP a p ≡ true → span_holds TOP b p ≡ true
  inside-holds a b h p k = holding b p (omega (arith, within a b h, held a p k))

  holds-within : (a b : Span TOP) → ((p : SpanPoint TOP) → span_holds TOP a p ≡ true → span_holds TOP b p ≡ true) → Within a b
  holds-within a b all =
      ((held b (bottom a) (all (bottom a) (bottom-held a))).0, (held b (summit a) (all (summit a) (summit-held a))).1)

  holds-inside : (a b : Span TOP) → ((p : SpanPoint TOP) → span_holds TOP a p ≡ true → span_holds TOP b p ≡ true) → span_inside TOP a b ≡ true
  holds-inside a b all =
      let w = holds-within a b all in
      and_from (nat_le b.low a.low) (nat_le a.high b.high) (le-leb b.low a.low w.0)
      (le-leb a.high b.high w.1)

  same_points : (a b : Span TOP) → ((p : SpanPoint TOP) → span_holds TOP a p ≡ span_holds TOP b p) → a ≡ b
  same_points a b same =
      let there = holds-within a b (λ p h. sym (same p) ∙ h) in
      let back = holds-within b a (λ p h. same p ∙ h) in
      same_span TOP a b (omega arith) (omega arith)

  meet-holds : (a b m : Span TOP) → span_meet TOP a b ≡ Some m → (p : SpanPoint TOP) → span_holds TOP m p ≡ (span_holds TOP a p && span_holds TOP b p)
  meet-holds a b m h p =
      let (t, e) = if_some (nat_le (max a.low b.low) (min a.high b.high)) (meet_span TOP a b) m h in
      let n = meet_span TOP a b t in
      rw (← e)
      (same_from_decides (span_holds TOP n p) (span_holds TOP a p && span_holds TOP b p) (decides_held n p)
      (Decides-like (span_holds TOP a p && span_holds TOP b p) (λ k. omega arith) (λ k. omega arith) (Decides-and (span_holds TOP a p) (span_holds TOP b p) (decides_held a p) (decides_held b p))))

  no_meet : (a b : Span TOP) → span_meet TOP a b ≡ None → (p : SpanPoint TOP) → span_holds TOP a p ≡ true → span_holds TOP b p ≢ true
  no_meet a b h p ha hb =
      let l = max a.low b.low in
      let u = min a.high b.high in
      omega (arith, leb-false l u (if_none (nat_le l u) (meet_span TOP a b) h), held a p ha, held b p hb)

  pub elsewhere : (p : SpanPoint TOP) (axis : ℕ) (e : Edge) (r : Span TOP) → (axis ≢ 1) → span_shifted TOP p axis e r ≡ p
  elsewhere p axis e r ne = let other = ne_eqb axis 1 ne in cc

  other_axis : (p : SpanPoint TOP) (axis : ℕ) (e : Edge) (r : Span TOP) → (axis ≡ 0) ⊎ ((1 < axis) ⊎ (◌≡◌ {A = ℕ} 1 5)) → span_shifted TOP p axis e r ≡ p
  other_axis p axis e r h = elsewhere p axis e r (λ x. omega arith)

  -- the edges of a span
  abbrev pub low : Span TOP → ℕ
  low r = r.low

  abbrev pub past : Span TOP → ℕ
  past r = r.high + 1

  same-held : (rs : List (Span TOP)) (p q : SpanPoint TOP) (c : Choice (Span TOP)) → LastEdge low past p.value rs c → q.value ≡ edge_of low past c → (r : Span TOP) → Memᴰ r rs → span_holds TOP r q ≡ span_holds TOP r p
  same-held rs p q c k e r m =
      let past-reached : p.value ≤ r.high → q.value ≤ r.high = λ h. omega (arith, k.not_above) in
      let past-kept : q.value ≤ r.high → p.value ≤ r.high = λ h. ⊎_elim (λ (lt : r.high < p.value). absurd (omega (arith, k.far_passed r m (omega arith))))
      (λ (ge : p.value ≤ r.high). ge) (cases_lt r.high p.value) in
      same_from_decides (span_holds TOP r q) (span_holds TOP r p) (decides_held r q)
      (Decides-like (span_holds TOP r p) (λ h. (omega (arith, k.near_passed r m h.0), past-reached h.1)) (λ h. (omega (arith, h.0, k.not_above), past-kept h.1)) (decides_held r p))

  pub span_laws : FamilyLaws (whole_span TOP) (first_number TOP) 1 (span_holds TOP) (span_inside TOP) (span_meet TOP) (span_shifted TOP)
  span_laws = record {
    inhabited = λ r. (bottom r, bottom-held r);
    everything = λ p. holding (whole_span TOP) p (omega (arith, p.top));
    inside-holds = inside-holds;
    holds-inside = holds-inside;
    same_points = same_points;
    meet-holds = meet-holds;
    no_meet = no_meet;
    axes_low = omega arith;
    axes_high = omega arith;
    other_axis = other_axis;
    reached = λ _. reached;
  }
    where
      number_reached : (p : SpanPoint TOP) (c : Choice (Span TOP)) → p.value ≡ 0 → edge_of low past c ≤ TOP → (moved (span_shifted TOP) p 1 c).value ≡ edge_of low past c
      number_reached p still z h = z
      number_reached p (toward e r) z h = edge_reached low past (TOP + 1) e r p.value (omega arith)

      reached : (p : SpanPoint TOP) (rs : List (Span TOP)) → (cs : List (Choice (Span TOP))) × (length cs ≡ 1) × AllFrom rs cs × ((r : Span TOP) → Memᴰ r rs → span_holds TOP r (walked (span_shifted TOP) (first_number TOP) 1 cs) ≡ span_holds TOP r p)
      reached p rs =
          let (c, k) = last_edge low past p.value rs in
          let q = moved (span_shifted TOP) (first_number TOP) 1 c in
          (c ∷ [], refl, (k.named, tt), same-held rs p q c k (number_reached (first_number TOP) c refl (omega (arith, k.not_above, p.top))))
