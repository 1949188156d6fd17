use Rattle.comparison.specs.Settings.{setting_of, standing, Consistent, SameSetting}
use Rattle.comparison.specs.Histories.{Running}
use Rattle.comparison.proofs.Comparison.run.Given as goal

abbrev pub invariant-loop-i : goal.invariant-loop-i
invariant-loop-i g l =
    Running (setting_of g.A.Plan.meaning g.B.Plan.meaning g.R.Rule.says l.initial.self) (standing l.initial.self) l.calls l.initial.answers l.answers (standing l.self) l.i
    × SameSetting l.initial.self l.self
    × Consistent (setting_of g.A.Plan.meaning g.B.Plan.meaning g.R.Rule.says l.self) (standing l.self)
