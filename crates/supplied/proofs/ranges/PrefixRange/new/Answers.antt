-- Each refusal is the first fault, and what is made has the numbers that were given.
use Rattle.std.proofs.Common.{sym, ◌∙◌, arith}
use Rattle.std.proofs.lemmas.Grind.{common_steps}
use Rattle.supplied.specs.MadeRanges.{range_made_of, prefix_refused, lengths_refused}
use Rattle.supplied.specs.MadeRoutes.{route_numbers}
use Rattle.supplied.proofs.ranges.PrefixRange.new.Goals as goal

pub returns-in_err-prefix : goal.returns-in_err-prefix
returns-in_err-prefix c =
    grind (arith, common_steps, prefix_refused c.args.address c.args.length c.args.low c.args.high _ (sym c.new.ensures ∙ c.in_err-prefix.was))

pub returns-then-low-length : goal.returns-then-low-length
returns-then-low-length c = sym (lengths_refused _ _ _ _ c.in_ok-prefix.prefix (sym c.new.ensures ∙ c.in_ok-prefix.was) (grind arith))

pub invariant_of-result : goal.invariant_of-result
invariant_of-result c =
    let same = route_numbers c.args.address c.args.length c.in_ok-prefix.prefix (sym c.new.ensures ∙ c.in_ok-prefix.was) in
    record {
      from = omega arith;
      order = omega arith;
      width = omega arith;
      bound = omega arith;
      zeros = rw (c.address.ensures, c.length.ensures) c.in_ok-prefix.prefix.zeros;
    }

pub returns : goal.returns
returns c =
    let same = route_numbers c.args.address c.args.length c.in_ok-prefix.prefix (sym c.new.ensures ∙ c.in_ok-prefix.was) in
    sym (range_made_of c.args.address c.args.length _ (c.address.ensures ∙ same.0) (c.length.ensures ∙ same.1))
