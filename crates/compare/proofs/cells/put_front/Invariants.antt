use Rattle.std.proofs.Common.{◌≡◌, ◌+◌, ◌≤◌, take}
use Rattle.std.specs.Iterator.{size}
use Rattle.compare.proofs.cells.put_front.Given as goal

abbrev pub invariant-loop-number : goal.invariant-loop-number
invariant-loop-number g l =
    (goal.iterator-loop-number g).can_next l.number-iterator
    × (goal.iterator-loop-number g).is_finite l.number-iterator
    × (l.count + size (g.I.Iterator.remaining l.number-iterator) ≤ size (g.I.Iterator.remaining l.fn.numbers))
    × (take l.count l.out ≡ l.yielded)
