use Rattle.pairs.specs.Pairs.{kept_pairs}
use Rattle.pairs.proofs.Made.{Made, RowMade}
use Rattle.pairs.proofs.table.PairTable.from_fn.Given as goal

abbrev pub invariant-loop-second : goal.invariant-loop-second
invariant-loop-second g l =
    goal.F-IsAlwaysCallable g l.test
    × Made (goal.F-post g l.test) (kept_pairs l.pairs) l.first
    × RowMade (goal.F-post g l.test) (kept_pairs l.pairs) l.first l.second

abbrev pub invariant-loop-first : goal.invariant-loop-first
invariant-loop-first g l = goal.F-IsAlwaysCallable g l.test × Made (goal.F-post g l.test) (kept_pairs l.pairs) l.first
