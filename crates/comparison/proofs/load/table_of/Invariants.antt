use Rattle.std.proofs.Common.{◌≡◌}
use Rattle.pairs.specs.Pairs.{kept_pairs}
use Rattle.pairs.specs.PairFile.{rows_up_to}
use Rattle.comparison.proofs.load.table_of.Given as goal

abbrev pub invariant-loop-i : goal.invariant-loop-i
invariant-loop-i l = kept_pairs l.pairs ≡ rows_up_to l.file.bytes.now l.i
