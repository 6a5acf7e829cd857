use Rattle.std.proofs.Common.{◌^◌, ◌<◌, ap, arith}
use Rattle.supplied.specs.Spans.{span_holds}
use Rattle.fields.specs.Reading.{outcome_of, held_in}
use Rattle.records.specs.SpanUndoing.{span_undoing}
use Rattle.records.proofs.spans.SpanWritten.write.Goals as goal

pub returns-clause-meaning : goal.returns-clause-meaning
returns-clause-meaning g c =
    let small : c.args.self.high < 2 ^ 32 = omega (arith, c.high.type_inv, c.high.ensures) in
    λ behind point. ap (λ r. held_in (span_holds g.row.TOP) (outcome_of r) point) ((span_undoing g.row.TOP).read_back c.args.self small behind)
