use Rattle.std.proofs.Common.{arith}
use Rattle.files.specs.Compared.{files_compared}
use Rattle.files.proofs.Fitted.{short}
use Rattle.host_calls.proofs.rowlist_compare.Goals as goal

pub overflow_cast-result : goal.overflow_cast-result
overflow_cast-result c =
    let small = short c.args.listing.now (files_compared c.args.left.now c.args.right.now) c.in-Ok.length c.in-Ok.ensures.answer in
    omega arith
