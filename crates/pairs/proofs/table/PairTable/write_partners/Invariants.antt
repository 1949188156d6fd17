use Rattle.pairs.specs.Pairs.{kept_pairs}
use Rattle.pairs.specs.Listing.{partners_below}
use Rattle.pairs.specs.Placing.{Placed}
use Rattle.pairs.proofs.table.PairTable.write_partners.Given as goal

abbrev pub invariant-loop-second : goal.invariant-loop-second
invariant-loop-second l = Placed (partners_below (kept_pairs l.self) l.first l.second) l.initial.buffer l.buffer l.from l.at
