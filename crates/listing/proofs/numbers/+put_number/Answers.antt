use Rattle.std.proofs.Common.{sym, arith}
use Rattle.std.proofs.lemmas.Fmt.{decimal_digit, decimal_step}
use Rattle.buffers.proofs.Putting.{same_text, ◌then◌}
use Rattle.listing.proofs.numbers.+put_number.Goals as goal

pub returns-then-number-lt10 : goal.returns-then-number-lt10
returns-then-number-lt10 t c = same_text (sym (decimal_digit c.args.number (omega arith))) c.put_byte.ensures

pub returns : goal.returns
returns t c =
    same_text (sym (decimal_step c.args.number (omega arith) (omega arith)))
    (c.put_number.ensures then c.put_byte-2.ensures)
