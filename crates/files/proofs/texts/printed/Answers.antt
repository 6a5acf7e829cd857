use Rattle.std.proofs.Common.{rules}
use Rattle.files.proofs.Meaning.{files_meant}
use Rattle.files.proofs.PrintedTexts.{printed_as}
use Rattle.files.proofs.texts.printed.Goals as goal

pub returns-in-Ok : goal.returns-in-Ok
returns-in-Ok c = record { text = rw (← printed_as c.args.left.now c.args.right.now) (search rules); meaning = files_meant c.args.left.now c.args.right.now }

pub returns-in-Err : goal.returns-in-Err
returns-in-Err c = record { text = rw (← printed_as c.args.left.now c.args.right.now) (search rules); meaning = files_meant c.args.left.now c.args.right.now }
