use Rattle.std.proofs.Common.{ap, sym, ◌∙◌, ◌++◌, drop, codes, append_assoc, rules}
use Rattle.std.proofs.lemmas.List.{append-nil, flat_map_more}
use Rattle.std.proofs.lemmas.List.Folds.{flat_map-map}
use Rattle.std.proofs.lemmas.Iterator.{YieldsList-from_slice, YieldsList-from_take}
use Rattle.std.proofs.lemmas.Iterator.Consumers.{YieldsList-end}
use Rattle.buffers.proofs.Putting.{same_text, ◌then◌}
use Rattle.listing.specs.Regions.{numbered_text}
use Rattle.listing.specs.Listings.{place_text, hole_text, holes_text}
use Rattle.listing.proofs.Parts.{got_from}
use Rattle.listing.proofs.listings.Listing.put_row.Goals as goal

pub loop-hole-init : goal.loop-hole-init
loop-hole-init c =
    same_text (simp (append_assoc, append-nil))
    (c.put_place.ensures then c.put_byte.ensures then c.put_place-2.ensures then c.put_numbered.ensures)

pub loop-hole-preserved : goal.loop-hole-preserved
loop-hole-preserved c =
    same_text
    (flat_map_more (λ hole. hole_text c.args.self.now.regions.now hole.now) _ c.loop-hole.yielded c.in-Some.hole)
    (c.loop-hole.invariant then c.put_numbered-in-loop-hole.ensures)

pub returns : goal.returns
returns c =
    let l = c.args.self.now in
    let row = c.args.row in
    let part = got_from l.holes.now row.start c.get.result c.unwrap_or_default-holes.result c.get.ensures.lookup.0 c.unwrap_or_default-holes.ensures in
    let chain = YieldsList-from_take {s = c.into_iter-hole-iterator.result} row.number (YieldsList-from_slice (drop row.start l.holes.now) (search rules)) (search rules) in
    let all = YieldsList-end chain c.loop-hole.yielded _ c.loop-hole.yielded_by _ _ c.in-None.is c.next.ensures.steps in
    let front = place_text l.left_clauses row.left ++ codes " " ++ place_text l.right_clauses row.right ++ codes " " ++ numbered_text l.regions.now row.region in
    same_text
    (ap (λ t. front ++ t ++ codes "\n") (sym (flat_map-map (hole_text l.regions.now) (λ hole. hole.now) c.loop-hole.yielded) ∙ ap (holes_text l.regions.now) all.0))
    (c.loop-hole.invariant then c.put_byte-2.ensures)
