use Rattle.std.proofs.Common.{arith}
use Rattle.drawing.specs.contracts.drawing.ask.DrawingPlan.TheImpl.{ghosts}
use Rattle.table.specs.contracts.table.ask.TablePlan.TheImpl.{ghosts as table_ghosts}
use Rattle.table.specs.Layout.{table_plan}
use Rattle.session.proofs.Openings.{plan_opened, plan_refused, gauge_opened, gauge_refused}
use Rattle.session.proofs.Rest.{rest_no_table, rest_no_gauge, rest_open}
use Rattle.session.proofs.run.finish.Goals as goal

pub returns-in_default-clause-rest : goal.returns-in_default-clause-rest
returns-in_default-clause-rest c =
    let files = c.args.files.now in
    let o = plan_refused table_ghosts.meaning c.open-opening.result c.opening_answer.result _ c.opening_answer.ensures c.open-opening.ensures.numbers c.in_default.field-0 c.in_default.is in
    rest_no_table (ghosts.meaning c.args.drawing) files.table.now files.gauge.now files.pairs.now c.args.commands.now c.args.lines.now (omega (arith, c.requires.lines))
    c.opening_answer.result o.0 o.1

pub returns-in_default-second-clause-rest : goal.returns-in_default-second-clause-rest
returns-in_default-second-clause-rest c =
    let files = c.args.files.now in
    let o = plan_opened table_ghosts.meaning c.open-opening.result c.opening_answer.result _ c.opening_answer.ensures c.open-opening.ensures.numbers c.in-Ok.table (table_plan files.table.now) c.in-Ok.is c.open-opening.ensures.plan in
    let p = gauge_refused (table_ghosts.meaning c.in-Ok.table) (table_plan files.table.now) files.gauge.now c.open_second-second.result c.gauge_answer.result o.2 c.gauge_answer.ensures c.open_second-second.ensures
    c.in_default-second.field-0 c.in_default-second.is in
    rest_no_gauge (ghosts.meaning c.args.drawing) files.table.now files.gauge.now files.pairs.now c.args.commands.now c.args.lines.now (omega (arith, c.requires.lines))
    c.opening_answer.result c.gauge_answer.result o.0 o.1 p.0 p.1

pub returns-clause-rest : goal.returns-clause-rest
returns-clause-rest c =
    let files = c.args.files.now in
    let o = plan_opened table_ghosts.meaning c.open-opening.result c.opening_answer.result _ c.opening_answer.ensures c.open-opening.ensures.numbers c.in-Ok.table (table_plan files.table.now) c.in-Ok.is c.open-opening.ensures.plan in
    let p = gauge_opened (table_ghosts.meaning c.in-Ok.table) (table_plan files.table.now) files.gauge.now c.open_second-second.result c.gauge_answer.result o.2 c.gauge_answer.ensures c.open_second-second.ensures
    c.in-Ok-second.second c.in-Ok-second.is in
    rest_open (ghosts.meaning c.args.drawing) files.table.now files.gauge.now files.pairs.now c.args.commands.now c.args.lines.now (omega (arith, c.requires.lines))
    c.opening_answer.result c.gauge_answer.result _ c.answer_beside.new.answers c.write_lines.new.lines o.0 o.1 p.0 p.1 p.2 c.answer_beside.ensures c.write_lines.ensures
