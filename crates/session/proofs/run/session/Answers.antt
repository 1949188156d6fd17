use Rattle.std.proofs.Common.{sym, ap, length, arith}
use Rattle.std.proofs.lemmas.List.{length-set}
use Rattle.drawing.specs.contracts.drawing.ask.DrawingPlan.TheImpl.{ghosts}
use Rattle.drawing.specs.Layout.{drawing_plan}
use Rattle.session.specs.Session.{line}
use Rattle.session.proofs.Openings.{plan_opened, plan_refused}
use Rattle.session.proofs.Whole.{commands_few, room_parts, print_refused, print_rest}
use Rattle.session.proofs.run.session.Goals as goal

pub returns-in_default-clause-prints : goal.returns-in_default-clause-prints
returns-in_default-clause-prints c =
    let files = c.args.files.now in
    let lines = c.args.room.now.lines.now in
    let room = room_parts (length c.args.input.now) (length c.args.calls.now) c.args.room.now (sym c.if-not-holds.ensures) in
    let o = plan_refused ghosts.meaning c.open-opening.result c.opening_answer.result _ c.opening_answer.ensures c.open-opening.ensures.numbers c.in_default.field-0 c.in_default.is in
    record {
      enough = sym c.if-not-holds.ensures;
      within = omega (arith, room.3, length-set lines 0 (line 68 c.opening_answer.result));
      prints = print_refused files.drawing.now files.table.now files.gauge.now files.pairs.now c.args.input.now lines (omega (arith, room.3)) c.opening_answer.result o.0 o.1;
    }

pub finish-requires : goal.finish-requires
finish-requires c =
    let room = room_parts (length c.args.input.now) (length c.args.calls.now) c.args.room.now (sym c.if-not-holds.ensures) in
    let few = ap length c.in_ok-count.ensures.commands_read in
    let most = commands_few c.args.input.now in
    record {
      calls = omega (arith, few, most, room.1);
      answers = omega (arith, few, most, room.2);
      lines = omega (arith, few, most, room.3, length-set c.args.room.now.lines.now 0 (line 68 c.opening_answer.result));
    }

pub returns-clause-prints : goal.returns-clause-prints
returns-clause-prints c =
    let files = c.args.files.now in
    let lines = c.args.room.now.lines.now in
    let room = room_parts (length c.args.input.now) (length c.args.calls.now) c.args.room.now (sym c.if-not-holds.ensures) in
    let is = c.in_ok-count.ensures.commands_read in
    let o = plan_opened ghosts.meaning c.open-opening.result c.opening_answer.result _ c.opening_answer.ensures c.open-opening.ensures.numbers c.in-Ok.drawing (drawing_plan files.drawing.now) c.in-Ok.is c.open-opening.ensures.plan in
    record {
      enough = sym c.if-not-holds.ensures;
      within = omega (arith, c.finish.ensures.within, ap length is, commands_few c.args.input.now, c.finish.auto.lines, room.3, length-set lines 0 (line 68 c.opening_answer.result));
      prints =
          print_rest files.drawing.now files.table.now files.gauge.now files.pairs.now c.args.input.now lines (omega (arith, room.3)) c.opening_answer.result o.0
          (ghosts.meaning c.in-Ok.drawing) _ _ o.1 o.2 is c.finish.ensures.rest;
    }
