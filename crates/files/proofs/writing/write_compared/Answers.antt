use Rattle.std.proofs.Common.{◌≡◌, min, length, Ok, ap, ◌∙◌, arith, rules}
use Rattle.std.specs.Option.{ok_or}
use Rattle.listing.specs.Listings.{listing}
use Rattle.files.specs.declared.refusals.Unwritten.TheVariants.{TooLong}
use Rattle.files.specs.Compared.{files_compared}
use Rattle.files.specs.Written.{written_answer, buffer_after}
use Rattle.files.proofs.Fitted.{answer, back}
use Rattle.files.proofs.Meaning.{files_meant}
use Rattle.files.proofs.writing.write_compared.Goals as goal

pub returns-in_err-listing : goal.returns-in_err-listing
returns-in_err-listing c = record { answer = search rules; bytes = search rules; meaning = files_meant c.args.left.now c.args.right.now }

pub returns : goal.returns
returns c =
    let out = c.args.out.now in
    let l = c.in_ok-listing.listing in
    let text = listing l.regions.now l.rows.now l.holes.now l.left_clauses l.right_clauses in
    let used : c.min-room.result ≡ min 65535 (length out) = omega (arith, c.min-room.ensures) in
    let compared : Ok text ≡ files_compared c.args.left.now c.args.right.now = c.in_ok-listing.ensures in
    record {
      answer = c.ok_or.ensures.value ∙ ap (λ r. ok_or r TooLong) c.write_text-written.ensures.answer ∙ answer out text c.min-room.result used ∙ ap (written_answer out) compared;
      bytes = back out text c.min-room.result used c.write_text-written.new.out c.write_text-written.ensures.bytes ∙ ap (buffer_after out) compared;
      meaning = files_meant c.args.left.now c.args.right.now;
    }
