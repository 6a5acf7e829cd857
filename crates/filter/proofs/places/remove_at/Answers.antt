use Rattle.std.proofs.Common.{arith}
use Rattle.filter.proofs.Shifted.{remove_turns}
use Rattle.filter.proofs.places.remove_at.Goals as goal

pub returns-clause-memory : goal.returns-clause-memory
returns-clause-memory g c = remove_turns c.args.places.now c.args.count c.args.place (omega arith) (omega arith) c.rotate_left.new.self c.rotate_left.ensures.after
