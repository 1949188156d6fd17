use Rattle.commands.specs.Reading.{SoFar}
use Rattle.commands.proofs.read.read_commands.Given as goal

abbrev pub invariant-loop-line : goal.invariant-loop-line
invariant-loop-line l = SoFar l.input l.line-iterator.rest.now l.initial.commands l.count l.commands
