use Rattle.pairs.specs.Pairs.{kept_pairs}
use Rattle.pairs.specs.Listing.{pairs_below}
use Rattle.pairs.specs.Placing.{Placed}
use Rattle.pairs.proofs.table.PairTable.write_rows.Given as goal

abbrev pub invariant-loop-first : goal.invariant-loop-first
invariant-loop-first l = Placed (pairs_below (kept_pairs l.self) l.first) l.initial.buffer l.buffer 6 l.at
