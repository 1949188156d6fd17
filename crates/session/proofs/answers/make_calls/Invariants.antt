use Rattle.std.proofs.Common.{◌≤◌, take}
use Rattle.session.proofs.Making.{MadeSoFar}
use Rattle.session.proofs.answers.make_calls.Given as goal

abbrev pub invariant-loop-command : goal.invariant-loop-command
invariant-loop-command l =
    record {
      few : l.n ≤ l.command-index;
      made : MadeSoFar l.file l.commands l.command-index (take l.n l.calls);
    }
