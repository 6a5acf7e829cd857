-- Each refusal is the first fault, and what is made has the ends that were given.
use Rattle.std.proofs.Common.{sym, arith}
use Rattle.supplied.specs.MadeSpans.{span_refused, span_made}
use Rattle.supplied.proofs.spans.Span.new.Goals as goal

pub returns-then-low-high : goal.returns-then-low-high
returns-then-low-high g c = sym (span_refused g.row.TOP _ _ _ (grind arith))

pub returns-then-high : goal.returns-then-high
returns-then-high g c = sym (span_refused g.row.TOP _ _ _ (grind arith))

pub returns : goal.returns
returns g c = sym (span_made g.row.TOP _)
