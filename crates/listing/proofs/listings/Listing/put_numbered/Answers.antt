use Rattle.std.proofs.Common.{ap, ◌∙◌, ◌++◌, sym}
use Rattle.std.proofs.lemmas.List.{append-nil}
use Rattle.buffers.proofs.Putting.{same_text, ◌then◌}
use Rattle.listing.proofs.Parts.{numbered_there, numbered_past}
use Rattle.listing.proofs.listings.Listing.put_numbered.Goals as goal

pub returns-in-Some : goal.returns-in-Some
returns-in-Some c =
    let e = c.in-Some.ensures.lookup in
    let there = numbered_there c.args.self.now.regions.now c.args.number c.in-Some.region.now e.3.0 (e.3.1 c.in-Some.region.now) in
    same_text (ap (λ t. c.args.before.now ++ t) there) (c.put_bytes.ensures then c.put_region.ensures)

pub returns-in_default : goal.returns-in_default
returns-in_default c =
    let past = numbered_past c.args.self.now.regions.now c.args.number c.in_default.ensures.lookup.3 in
    same_text (sym (append-nil c.args.before.now) ∙ ap (λ t. c.args.before.now ++ t) past) c.put_bytes.ensures
