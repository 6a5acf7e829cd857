-- A region by its number, and a part of a list, which the list may not reach.
use Rattle.std.proofs.Common.{◌≡◌, ℕ, zero, suc, ◌+◌, ◌-◌, ◌<◌, ◌≤◌, ◌⊎◌, List, [], ◌∷◌, length, get_or, drop, Option, Some, None, Bor, sym, refl, ap, ◌∙◌, inl, inr, arith}
use Rattle.std.specs.List.{slice_range}
use Rattle.std.specs.Option.{MatchOption, UnwrapsOrElse}
use Rattle.std.proofs.lemmas.List.{take_all, drop_all, length-drop}
use Rattle.supplied.specs.declared.ranges.PrefixRange.{PrefixRange}
use Rattle.listing.specs.Regions.{region_text, numbered_text}

pub numbered_there : (rs : List PrefixRange) (n : ℕ) (r : PrefixRange) → n < length rs → r ≡ get_or rs n r → region_text r ≡ numbered_text rs n
numbered_there [] n r h e = absurd (omega arith)
numbered_there (x ∷ rs) zero r h e = ap region_text e
numbered_there (x ∷ rs) (suc n) r h e = numbered_there rs n r (omega arith) e

pub numbered_past : (rs : List PrefixRange) (n : ℕ) → length rs ≤ n → [] ≡ numbered_text rs n
numbered_past [] n h = refl
numbered_past (x ∷ rs) zero h = absurd (omega arith)
numbered_past (x ∷ rs) (suc n) h = numbered_past rs n (omega arith)

-- what is got of a list from a place on, or nothing
pub got_from : {X : Type 0} (xs : List X) (n : ℕ) (o : Option (Bor (List X))) (r : Bor (List X)) → MatchOption o ((length xs < n) ⊎ (length xs < length xs)) (λ x. (n ≤ length xs) × (length xs ≤ length xs) × (x.now ≡ slice_range xs n (length xs)) × (length x.now + n ≡ length xs)) → UnwrapsOrElse o (λ x. x.now ≡ []) r → r.now ≡ drop n xs
got_from xs n None r h e = e ∙ sym (drop_all n xs (elim h [ inl l ↦ omega arith | inr l ↦ absurd (omega arith) ]))
got_from xs n (Some x) r h e =
    ap (λ b. b.now) e ∙ h.2 ∙ take_all (length xs - n) (drop n xs) (omega (arith, length-drop n xs))
