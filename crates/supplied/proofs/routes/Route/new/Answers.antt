-- Each refusal is the first fault, and what is made has the numbers that were given.
use Rattle.std.proofs.Common.{sym, arith}
use Rattle.supplied.specs.MadeRoutes.{route_refused, route_made}
use Rattle.supplied.proofs.routes.Route.new.Goals as goal

pub returns-then-length-gt32 : goal.returns-then-length-gt32
returns-then-length-gt32 c = sym (route_refused _ _ _ (grind arith))

pub returns-then-bits_after-ne0 : goal.returns-then-bits_after-ne0
returns-then-bits_after-ne0 c = sym (route_refused _ _ _ (grind arith))

pub returns : goal.returns
returns c = sym (route_made _)
