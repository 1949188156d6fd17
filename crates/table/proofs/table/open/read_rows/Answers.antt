use Rattle.std.proofs.Common.{◌≡◌, None, sym, ◌∙◌, subst, arith}
use Rattle.std.proofs.lemmas.Result.{err_from_is_err_and}
use Rattle.layout.specs.declared.refusal.FileRefusal.TheVariants.{Row as RowRefused}
use Rattle.layout.proofs.Asked.{given_refusal}
use Rattle.table.specs.Opening.{Refused}
use Rattle.table.proofs.Reading.{rows_none, rows_more, row_refused, given_none}
use Rattle.table.proofs.table.open.read_rows.Goals as goal

pub loop-i-init : goal.loop-i-init
loop-i-init c = rows_none c.args.bytes.now

pub returns-in_err-rows : goal.returns-in_err-rows
returns-in_err-rows c =
    let p = err_from_is_err_and c.from_residual.result c.from_residual.ensures.1 in
    let none : c.read.result ≡ None = c.in_err-rows.ensures.ok_part in
    let is = given_refusal c.read.result _ (RowRefused c.loop-i.i) none c.in_err-rows.ensures.value in
    rw (p.1, p.2)
    (subst (Refused c.args.bytes.now) (sym is)
    (row_refused c.args.bytes.now c.loop-i.i c.requires.passes (omega arith) c.loop-i.invariant.proper_rows
    (given_none _ _ (sym none ∙ (rw c.requires.rows_read at c.read.ensures)))))

pub loop-i-preserved : goal.loop-i-preserved
loop-i-preserved c =
    rows_more c.args.bytes.now c.loop-i.i c.loop-i.rows c.in_ok-rows.field-0 c.loop-i.invariant (omega arith)
    (sym c.in_ok-rows.ensures.ok_part ∙ (rw c.requires.rows_read at c.read.ensures))
