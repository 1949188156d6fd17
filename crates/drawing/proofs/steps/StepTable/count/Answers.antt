use Rattle.std.proofs.Common.{sym, ap, ◌∙◌}
use Rattle.drawing.proofs.Spans.{span_length}
use Rattle.drawing.proofs.steps.StepTable.count.Goals as goal

pub returns : goal.returns
returns c = c.from.ensures ∙ ap (λ x. x.count) c.span.ensures ∙ sym (span_length c.args.self.now.targets _ _ (c.requires c.args.state))
