use Rattle.drawing.specs.Opening.{StatesRead}
use Rattle.drawing.proofs.drawing.open.DrawingFile.read_states.Given as goal

abbrev pub invariant-loop-s : goal.invariant-loop-s
invariant-loop-s l = StatesRead l.self.bytes.now l.s l.rows
