use Rattle.std.proofs.Common.{rules, tests, ◌≡◌, ◌-◌, filter, length, take, sym, ap, ◌∙◌, subst, arith}
use Rattle.std.proofs.lemmas.Iterator.{YieldsList-from_range, YieldsList-from_slice, items_from_drains}
use Rattle.std.proofs.lemmas.Iterator.Consumers.{YieldsList-from_copied, YieldsList-from_filter}
use Rattle.std.proofs.lemmas.List.{map-id}
use Rattle.compare.specs.Cells.{region_at, below, topmost, outermost, nested}
use Rattle.compare.proofs.Numbered.{counted}
use Rattle.compare.proofs.cells.RegionList.write_holes_of.Goals as goal

pub returns-clause-found : goal.returns-clause-found
returns-clause-found g c =
    let m = g.R.Family in
    let xs = c.args.self.now.regions.now in
    let at = region_at m.whole xs in
    let under = below m.inside at c.args.region in
    let ns = take c.put_front-count.result c.put_front-count.new.out in
    let all : length xs - 0 ≡ length xs = omega arith in
    let first = c.put_front-count.ensures.put in
    let one = items_from_drains first.0 (first.1.1.0, first.1.1.1, λ _. (first.1.0, first.1.1.2)) (YieldsList-from_filter _ under (YieldsList-from_range 0 (length xs) (length xs) c.filter.ensures.source all) c.filter.ensures.closure (λ x b q k. search (rules, tests))) in
    let inner : ns ≡ nested m.inside m.whole xs c.args.region = first.2 ∙ sym (map-id first.0) ∙ one ∙ ap (filter under) (counted 0 xs) in
    let second = c.put_front.ensures.put in
    let two = items_from_drains second.0 (second.1.1.0, second.1.1.1, λ _. (second.1.0, second.1.1.2)) (YieldsList-from_filter _ (topmost m.inside at ns) (YieldsList-from_copied (YieldsList-from_slice ns cc)) c.filter-2.ensures.closure (λ x b q k. search (rules, tests))) in
    subst (λ l. take c.put_front.result c.put_front.new.out ≡ outermost m.inside at l) inner (second.2 ∙ sym (map-id second.0) ∙ two)
