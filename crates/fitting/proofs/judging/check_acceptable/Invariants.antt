use Rattle.rules.specs.Rules.{Acceptable}
use Rattle.pairs.specs.Pairs.{kept_pairs}
use Rattle.fitting.specs.Covering.{AllBelow, RowBelow}
use Rattle.fitting.proofs.judging.check_acceptable.Given as goal

abbrev pub invariant-loop-t : goal.invariant-loop-t
invariant-loop-t g l =
    RowBelow (kept_pairs l.pairs) (Acceptable (g.A.Plan.meaning l.compared.first.now) (g.B.Plan.meaning l.compared.second.now) (g.R.Rule.says l.compared.rule.now)) l.s l.t

abbrev pub invariant-loop-s : goal.invariant-loop-s
invariant-loop-s g l =
    AllBelow (kept_pairs l.pairs) (Acceptable (g.A.Plan.meaning l.compared.first.now) (g.B.Plan.meaning l.compared.second.now) (g.R.Rule.says l.compared.rule.now)) l.s
