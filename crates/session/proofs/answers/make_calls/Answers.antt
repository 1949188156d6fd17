use Rattle.std.proofs.Common.{◌<◌, length, take, arith}
use Rattle.session.proofs.Making.{made_more, none_more, made_all}
use Rattle.session.proofs.answers.make_calls.Goals as goal
use Rattle.session.proofs.answers.make_calls.Goals.{in-Some, in_default}

pub loop-command-init : goal.loop-command-init
loop-command-init c = record { few = omega arith; made = record { with_rest = λ rest these. these } }

pub loop-command-preserved : goal.loop-command-preserved
loop-command-preserved c =
    let file = c.args.file.now in
    let commands = c.args.commands.now in
    let i = c.loop-command.command-index in
    let n = c.loop-command.n in
    let low : i < length commands = omega (arith, c.loop-command-test.true) in
    let place : n < length c.loop-command.calls = omega (arith, c.loop-command.invariant.few, c.requires, c.loop-command.auto.calls) in
    elim c.match-call_of.branch [
      | in-Some w ↦ record {
        few = omega (arith, w.n-is, c.loop-command.invariant.few);
        made = rw (w.n-is, w.calls-is) (made_more file commands c.loop-command.calls i n w.in-Some.call _ low place c.loop-command.invariant.made w.in-Some.ensures);
      }
      | in_default w ↦ record {
        few = omega (arith, w.n-is, c.loop-command.invariant.few);
        made = rw (w.n-is, w.calls-is) (none_more file commands (take n c.loop-command.calls) i _ low c.loop-command.invariant.made w.in_default.ensures);
      }
    ]

pub returns : goal.returns
returns c =
    record {
      count = omega (arith, c.loop-command.invariant.few, c.loop-command.auto.command-index-end);
      made = made_all c.args.file.now c.args.commands.now c.loop-command.command-index (take c.loop-command.n c.loop-command.calls) c.loop-command-test.false c.loop-command.invariant.made;
    }
