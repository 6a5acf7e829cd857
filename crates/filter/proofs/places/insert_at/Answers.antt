use Rattle.std.proofs.Common.{arith}
use Rattle.filter.proofs.Shifted.{insert_turns}
use Rattle.filter.proofs.places.insert_at.Goals as goal

pub returns-clause-memory : goal.returns-clause-memory
returns-clause-memory g c = insert_turns c.args.places.now c.args.count c.args.place c.args.x (omega arith) (omega arith) c.rotate_right.new.self c.rotate_right.ensures.after
