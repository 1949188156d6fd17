use Rattle.std.proofs.Common.{◌≡◌, ◌+◌, set, sym, ap, ◌∙◌, subst, arith}
use Rattle.drawing.specs.Layout.{from_in, to_in}
use Rattle.drawing.specs.Stored.{span_of, extended}
use Rattle.drawing.specs.Opening.{StepsRead}
use Rattle.drawing.proofs.StepRows.{steps_none, steps_more}
use Rattle.drawing.proofs.drawing.open.DrawingFile.read_steps.Goals as goal

pub loop-i-init : goal.loop-i-init
loop-i-init c =
    let b = c.args.self.now.bytes.now in
    subst (StepsRead b 0) (sym c.empty-steps.ensures) (steps_none b)

pub loop-i-preserved : goal.loop-i-preserved
loop-i-preserved c =
    let b = c.args.self.now.bytes.now in
    let i = c.loop-i.i in
    let t = c.loop-i.steps in
    let row = c.step_row-row.ensures in
    let spans : set t.spans (from_in b i) (extended (span_of t (from_in b i)) i) ≡ c.add.new.self.spans =
    sym (c.add.ensures.spans ∙ ap (λ f. set t.spans f (extended (span_of t f) i)) row.from_read) in
    let targets : set t.targets i (to_in b i) ≡ c.add.new.self.targets =
    sym (c.add.ensures.targets ∙ ap (set t.targets i) row.to_read) in
    subst (StepsRead b (i + 1)) (λ j. record { spans = spans j; targets = targets j })
    (steps_more b i t c.loop-i.invariant (omega arith) (sym c.if-leads_astray.ensures) (omega arith))

pub returns : goal.returns
returns c =
    let file = c.args.self.now in
    let all : c.loop-i.i ≡ file.header.steps = omega arith in
    subst (λ n. StepsRead file.bytes.now n c.loop-i.steps) (all ∙ file.read.steps_read) c.loop-i.invariant
