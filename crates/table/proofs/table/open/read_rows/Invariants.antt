use Rattle.table.specs.Opening.{RowsRead}
use Rattle.table.proofs.table.open.read_rows.Given as goal

abbrev pub invariant-loop-i : goal.invariant-loop-i
invariant-loop-i l = RowsRead l.bytes l.i l.rows
