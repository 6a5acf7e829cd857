-- A number above the top is refused, and any other is the point's.
use Rattle.std.proofs.Common.{sym, arith}
use Rattle.supplied.specs.MadeSpans.{point_refused, point_made}
use Rattle.supplied.proofs.spans.SpanPoint.new.Goals as goal

pub returns-then-value : goal.returns-then-value
returns-then-value g c = sym (point_refused g.row.TOP _ _ (grind arith))

pub returns : goal.returns
returns g c = sym (point_made g.row.TOP _)
