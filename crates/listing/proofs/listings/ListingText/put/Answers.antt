use Rattle.std.proofs.Common.{ap, ◌∙◌, ◌++◌, get_or, refl, take, length, codes, decimal, append_assoc}
use Rattle.std.proofs.lemmas.List.{append-nil}
use Rattle.std.specs.List.{flat_map}
use Rattle.compare.specs.declared.rows.Row.{Row}
use Rattle.listing.specs.Listings.{listing, row_text}
use Rattle.buffers.proofs.Joining.{joined-take, joined-all}
use Rattle.buffers.proofs.Putting.{same_text, ◌then◌}
use Rattle.listing.proofs.listings.ListingText.put.Goals as goal

-- what a read past the rows would give
abbrev past : Row
past = record { left = 0; right = 0; region = 0; start = 0; number = 0 }

pub loop-row-init : goal.loop-row-init
loop-row-init c = same_text (simp append-nil) (c.put_bytes.ensures then c.put_number.ensures then c.put_byte.ensures)

pub loop-row-preserved : goal.loop-row-preserved
loop-row-preserved c =
    let s = c.args.self.now in
    let head = codes "rows " ++ decimal (length s.rows.now) ++ codes "\n" in
    let text = row_text s.regions.now s.holes.now s.left_clauses s.right_clauses in
    let i = c.loop-row.row-index in
    same_text
    (append_assoc head (flat_map text (take i s.rows.now)) (text (get_or s.rows.now i past))
    ∙ ap (λ t. head ++ t) (joined-take text s.rows.now i past _ c.loop-row-test.true refl))
    (c.loop-row.invariant then c.put_row.ensures)

pub returns-clause-bytes : goal.returns-clause-bytes
unfolding listing
returns-clause-bytes c =
    let s = c.args.self.now in
    let head = codes "rows " ++ decimal (length s.rows.now) ++ codes "\n" in
    let text = row_text s.regions.now s.holes.now s.left_clauses s.right_clauses in
    same_text (ap (λ t. head ++ t) (joined-all text s.rows.now c.loop-row.row-index c.loop-row-test.false)) c.loop-row.invariant
