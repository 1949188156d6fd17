use Rattle.pairs.specs.Pairs.{Has, kept_pairs}
use Rattle.fitting.specs.Bisimilarity.{Matched}
use Rattle.fitting.specs.Covering.{AllBelow, RowBelow, SidesCovered, ClosingsCovered}
use Rattle.fitting.proofs.judging.check_covered.Given as goal

abbrev pub invariant-loop-closing : goal.invariant-loop-closing
invariant-loop-closing g l = ClosingsCovered (g.A.Plan.meaning l.compared.first.now) (g.B.Plan.meaning l.compared.second.now) (kept_pairs l.pairs) l.side l.s l.t l.closing

abbrev pub invariant-loop-side : goal.invariant-loop-side
invariant-loop-side g l = SidesCovered (g.A.Plan.meaning l.compared.first.now) (g.B.Plan.meaning l.compared.second.now) (kept_pairs l.pairs) l.s l.t l.side-index

abbrev pub invariant-loop-t : goal.invariant-loop-t
invariant-loop-t g l =
    RowBelow (kept_pairs l.pairs) (Matched (g.A.Plan.meaning l.compared.first.now) (g.B.Plan.meaning l.compared.second.now) (Has (kept_pairs l.pairs))) l.s l.t

abbrev pub invariant-loop-s : goal.invariant-loop-s
invariant-loop-s g l =
    AllBelow (kept_pairs l.pairs) (Matched (g.A.Plan.meaning l.compared.first.now) (g.B.Plan.meaning l.compared.second.now) (Has (kept_pairs l.pairs))) l.s
