-- The meet is the span that the larger low end and the smaller high end make.
use Rattle.std.proofs.Common.{◌≡◌, ℕ, min, max, true, false, leb, sym, ap, ap₂, ◌∙◌, refl, ⊎_elim}
use Rattle.std.specs.Result.{result_ok}
use Rattle.std.proofs.lemmas.Bool.{cases_Bool}
use Rattle.supplied.specs.MadeSpans.{made_span, span_made, span_refused}
use Rattle.supplied.specs.Making.{some_if, none_if}
use Rattle.supplied.specs.Spans.{meet_span, same_span, span_meet}
use Rattle.supplied.specs.declared.errors.MakeError.TheVariants.{LowAboveHigh}
use Rattle.supplied.specs.declared.spans.Span.{Span}
use Rattle.supplied.proofs.spans.questions.SpanFamily.meet_with.Goals as goal

meet_made : (TOP : ℕ) (a b : Span TOP) → result_ok (made_span TOP (max a.low b.low) (min a.high b.high)) ≡ span_meet TOP a b
meet_made TOP a b =
    let low = max a.low b.low in
    let high = min a.high b.high in
    let meet = meet_span TOP a b in
    ⊎_elim
    (λ (t : leb low high ≡ true). ap result_ok (span_made TOP (meet t)) ∙ sym (some_if (leb low high) meet (meet t) t (λ e. same_span TOP (meet e) (meet t) refl refl)))
    (λ (f : leb low high ≡ false). ap result_ok (span_refused TOP low high LowAboveHigh (rw f refl)) ∙ sym (none_if (leb low high) meet f))
    (cases_Bool (leb low high))

pub returns : goal.returns
returns g c =
    c.ok.ensures.value
    ∙ ap result_ok (c.new.ensures ∙ ap₂ (made_span g.row.TOP) c.max.ensures c.min.ensures)
    ∙ meet_made g.row.TOP c.args.self c.args.other
