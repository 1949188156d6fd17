use Rattle.pairs.specs.Pairs.{kept_pairs}
use Rattle.largest.specs.Sweeping.{CoveredIn, RowSwept, Tells}
use Rattle.largest.proofs.round.strike_row.Given as goal

abbrev pub invariant-loop-t : goal.invariant-loop-t
invariant-loop-t l =
    RowSwept (CoveredIn l.next l.covered) l.s l.t (kept_pairs l.initial.pairs) (kept_pairs l.pairs)
    × Tells l.struck (kept_pairs l.initial.pairs) (kept_pairs l.pairs)
