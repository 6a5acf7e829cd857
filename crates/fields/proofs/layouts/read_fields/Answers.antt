use Rattle.std.proofs.Common.{arith}
use Rattle.fields.specs.Layouts.{fields_of, places_of}
use Rattle.fields.proofs.FieldTurns.{field_read}
use Rattle.fields.proofs.Places.{ones_next, some_one}
use Rattle.fields.proofs.layouts.read_fields.Goals as goal

pub loop-preserved : goal.loop-preserved
loop-preserved g c =
    let layout = g.L.Layout.layout in
    let some = some_one c.loop.ahead (omega arith) in
    (field_read layout.taken {told = fields_of layout.taken (places_of c.args.map) layout.absent c.args.bytes.now} c.loop.ahead (omega arith) c.loop.numbers c.loop.rest.now c.loop.invariant.0 (omega arith) {r = c.take_field.result} c.take_field.ensures c.in_ok-numbers.was, omega (arith, ones_next c.loop.ahead (omega arith) some))
