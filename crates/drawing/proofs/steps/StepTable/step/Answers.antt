use Rattle.std.proofs.Common.{◌+◌, ◌<◌, ◌≤◌, get_or, sym, ap, ◌∙◌, subst}
use Rattle.drawing.proofs.Spans.{span_at, span_past}
use Rattle.drawing.proofs.steps.StepTable.step.Goals as goal

pub returns-then-i-from : goal.returns-then-i-from
returns-then-i-from c =
    let t = c.args.self.now in
    let counted = c.from.ensures ∙ ap (λ x. x.count) c.span-span.ensures in
    c.from-then-i-from-2.ensures
    ∙ ap (λ k. get_or t.targets (k + c.args.i) 0) (c.from-then-i-from.ensures ∙ ap (λ x. x.first) c.span-span.ensures)
    ∙ sym (span_at t.targets _ _ c.args.i (subst (λ k. c.args.i < k) counted c.if-i-from.true))

pub returns-else-i-from : goal.returns-else-i-from
returns-else-i-from c =
    let t = c.args.self.now in
    let counted = c.from.ensures ∙ ap (λ x. x.count) c.span-span.ensures in
    sym (span_past t.targets _ _ (c.requires c.args.state) c.args.i (subst (λ k. k ≤ c.args.i) counted c.if-i-from.false))
