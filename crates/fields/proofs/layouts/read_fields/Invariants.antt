use Rattle.std.proofs.Common.{◌≡◌, ◌+◌}
use lib.Count.{ones}
use Rattle.fields.specs.Layouts.{fields_of, places_of}
use Rattle.fields.proofs.layouts.read_fields.Given as goal

-- what is ahead gives the answer, in as many turns as it has ones
abbrev pub invariant-loop : goal.invariant-loop
invariant-loop g l =
    let taken = g.L.Layout.layout.taken in
    (fields_of taken (places_of l.ahead) l.numbers l.rest ≡ fields_of taken (places_of l.map) g.L.Layout.layout.absent l.bytes)
    × (l.counter + ones l.ahead ≡ l.end)
