use Rattle.pairs.specs.Pairs.{kept_pairs}
use Rattle.pairs.specs.Listing.{pair_count}
use Rattle.largest.proofs.Refining.{SomeRound}
use Rattle.largest.proofs.finding.refine.Given as goal

abbrev pub invariant-loop-next : goal.invariant-loop-next
invariant-loop-next g l = SomeRound (g.A.Plan.meaning l.compared.first.now) (g.B.Plan.meaning l.compared.second.now) (g.R.Rule.says l.compared.rule.now) (kept_pairs l.pairs)

abbrev pub decreases-loop-next : goal.decreases-loop-next
decreases-loop-next g l = pair_count (kept_pairs l.pairs)
