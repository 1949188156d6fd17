use Rattle.commands.specs.Reading.{NumberSoFar}
use Rattle.commands.proofs.fields.read_number.Given as goal

abbrev pub invariant-loop-byte : goal.invariant-loop-byte
invariant-loop-byte l = NumberSoFar l.field l.byte-index l.number
