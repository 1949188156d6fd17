use Rattle.std.proofs.Common.{◌<◌, ◌+◌, length, ◌∙◌, arith}
use Rattle.std.specs.Slice.Iter.{iter_rest}
use Rattle.session.proofs.Making.{lines_more, lines_all}
use Rattle.session.proofs.answers.write_lines.Goals as goal

pub loop-i-preserved : goal.loop-i-preserved
loop-i-preserved c =
    let commands = c.args.commands.now in
    let i = c.loop-i.i in
    let low : i < length commands = c.loop-i-test.true in
    let place : c.args.at + i < length c.loop-i.lines = omega (arith, low, c.requires, c.loop-i.auto.lines) in
    lines_more commands (iter_rest c.loop-i.left) (iter_rest c.next_line.new.answers) c.loop-i.lines c.args.at i _ c.next_line.result low place c.next_line.ensures.line c.next_line.ensures.taken
    ∙ c.loop-i.invariant

pub returns : goal.returns
returns c =
    lines_all c.args.commands.now (iter_rest c.loop-i.left) c.loop-i.lines c.args.at c.loop-i.i c.loop-i-test.false (omega (arith, c.loop-i.auto.i-end))
    ∙ c.loop-i.invariant
