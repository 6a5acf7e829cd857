-- What is made is the range with the lengths that both allow.
use Rattle.std.proofs.Common.{◌≡◌, ◌≤◌, min, max, true, leb, sym, refl, ap, ◌∙◌, arith}
use Rattle.std.proofs.lemmas.Bool.{and_from, le-leb}
use Rattle.std.specs.Option.{option_map}
use Rattle.supplied.specs.Making.{some_if}
use Rattle.supplied.specs.Prefixes.{agree}
use Rattle.supplied.specs.PrefixValues.{range_values}
use Rattle.supplied.specs.Ranges.{overlaps, narrow_to, same_range}
use Rattle.supplied.proofs.ranges.PrefixRange.narrowed.Goals as goal

pub returns : goal.returns
returns c =
    let a = range_values.to c.args.self in
    let b = range_values.to c.args.other in
    let agreed : agree 32 b.length a.address b.address ≡ true = sym c.same_prefix.ensures ∙ c.if-not-same_prefix.false in
    let le : max a.low b.low ≤ min a.high b.high = omega (arith, c.max-low.ensures, c.min-high.ensures, c.if-low-high.false) in
    let t : overlaps 32 a b ≡ true = and_from (agree 32 b.length a.address b.address) (leb (max a.low b.low) (min a.high b.high)) agreed
    (le-leb (max a.low b.low) (min a.high b.high) le) in
    sym
    (ap (option_map range_values.back)
    (some_if (overlaps 32 a b) (narrow_to 32 a b) _ t (λ e. same_range (narrow_to 32 a b e) _ refl refl (sym c.max-low.ensures) (sym c.min-high.ensures))))
