use Rattle.std.proofs.Common.{◌∙◌, ap, false, get_or, arith}
use Rattle.commands.specs.Reading.{command_by}
use Rattle.commands.proofs.Commanded.{letter_spaced}
use Rattle.commands.proofs.read.read_command.Goals as goal

pub returns-in-32 : goal.returns-in-32
returns-in-32 c =
    let line = c.args.line.now in
    c.command_by-in-32.ensures ∙ ap (λ numbers. command_by (get_or line 0 0) numbers false) c.read_numbers.ensures ∙ letter_spaced line c.in-32.len_at_least (omega arith)
