use Rattle.drawing.specs.Opening.{StepsRead}
use Rattle.drawing.proofs.drawing.open.DrawingFile.read_steps.Given as goal

abbrev pub invariant-loop-i : goal.invariant-loop-i
invariant-loop-i l = StepsRead l.self.bytes.now l.i l.steps
