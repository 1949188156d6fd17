use Rattle.std.proofs.Common.{◌≡◌, false, get_or}
use Rattle.pairs.specs.Pairs.{kept_pairs}
use Rattle.pairs.proofs.Made.{RowsGiven, RowMade}
use Rattle.pairs.proofs.table.PairTable.from_rows.Given as goal

abbrev pub invariant-loop-second : goal.invariant-loop-second
invariant-loop-second g l =
    goal.F-IsAlwaysCallable g l.rows
    × RowsGiven (goal.F-post g l.rows) (kept_pairs l.pairs) l.first
    × RowMade (λ s t says. says ≡ get_or l.row t false) (kept_pairs l.pairs) l.first l.second

abbrev pub invariant-loop-first : goal.invariant-loop-first
invariant-loop-first g l = goal.F-IsAlwaysCallable g l.rows × RowsGiven (goal.F-post g l.rows) (kept_pairs l.pairs) l.first
