use Rattle.std.proofs.Common.{rules, ◌≡◌, ◌+◌, ◌-◌, ◌^◌, ◌∙◌, min, fold}
use Rattle.std.proofs.iter.runs.Made.{chains}
use Rattle.compare.proofs.LaidOut.{capped_total}
use Rattle.compare.proofs.rows.count_holes.Goals as goal

pub returns : goal.returns
returns c =
    let total : c.fold.result ≡ fold (λ total row. min (total + row.number) (2 ^ 64 - 1)) 0 c.args.rows.now = search (rules, chains) in
    total ∙ capped_total c.args.rows.now
