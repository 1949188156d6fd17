use Rattle.pairs.specs.Pairs.{kept_pairs}
use Rattle.largest.specs.Sweeping.{CoveredIn, RowsSwept, Tells}
use Rattle.largest.proofs.round.next_round.Given as goal

abbrev pub invariant-loop-s : goal.invariant-loop-s
invariant-loop-s l =
    RowsSwept (CoveredIn l.next l.covered) l.s (kept_pairs l.initial.pairs) (kept_pairs l.pairs)
    × Tells l.struck (kept_pairs l.initial.pairs) (kept_pairs l.pairs)
