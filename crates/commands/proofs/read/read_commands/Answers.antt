use Rattle.std.proofs.Common.{eqb, length, ap, ◌∙◌, length-append, arith, rules, tests}
use Rattle.std.proofs.lemmas.Fn.{always_returns_same}
use Rattle.std.proofs.lemmas.List.{nil_from_length}
use Rattle.commands.specs.Commands.{command_of}
use Rattle.commands.proofs.Progress.{progress_more, progress_all}
use Rattle.commands.proofs.Splits.{line_first}
use Rattle.commands.proofs.read.read_commands.Goals as goal

pub loop-line-preserved : goal.loop-line-preserved
loop-line-preserved c =
    let step = c.in-Some.ensures.steps in
    let first = (step.1.2 (λ b. eqb b 10) (always_returns_same _ _ _ (λ a r q k. search (rules, tests)))).1 in
    progress_more c.args.input.now c.loop-line.line-iterator.rest.now c.next.new.self.rest.now c.args.commands.now c.loop-line.count c.loop-line.commands _ c.read_command.result
    c.loop-line.invariant (line_first _ _ c.in-Some.line c.strip_suffix.result step.1.0 step.0 step.1.1 first step.2 c.strip_suffix.ensures.cases)
    (omega (arith, ap length step.0, length-append c.in-Some.line.now c.next.new.self.rest.now)) (omega arith)
    (c.read_command.ensures ∙ ap (λ line. command_of line.now) c.unwrap_or.ensures)

pub returns : goal.returns
returns c =
    progress_all c.args.input.now _ c.args.commands.now c.loop-line.count c.loop-line.commands c.loop-line.invariant (nil_from_length _ c.in-None.ensures.steps.0) (omega arith)
