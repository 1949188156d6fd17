use Rattle.comparison.specs.Settings.{setting_of}
use Rattle.comparison.specs.Loading.{RowsAllowed}
use Rattle.comparison.proofs.Comparison.check_rows.Given as goal

abbrev pub invariant-loop-i : goal.invariant-loop-i
invariant-loop-i g l = RowsAllowed (setting_of g.A.Plan.meaning g.B.Plan.meaning g.R.Rule.says l.self) l.file.bytes.now l.i-counter
