use Rattle.std.proofs.Common.{◌≡◌, ◌+◌, ◌++◌, take, drop}
use Rattle.std.specs.Slice.Iter.{iter_rest}
use Rattle.session.specs.Session.{command_lines}
use Rattle.session.proofs.answers.write_lines.Given as goal

abbrev pub invariant-loop-i : goal.invariant-loop-i
invariant-loop-i l =
    take (l.at + l.i) l.lines ++ command_lines (drop l.i l.commands) (iter_rest l.left) ≡ take l.at l.initial.lines ++ command_lines l.commands l.answers
