use Rattle.std.proofs.Common.{false, rules, tests}
use Rattle.std.proofs.lemmas.Iterator.{YieldsList-from_slice, YieldsList-from_zip}
use Rattle.std.proofs.lemmas.Iterator.Consumers.{fold_from_yields_List}
use Rattle.pairs.proofs.Folding.{meets, rows_met}
use Rattle.pairs.proofs.table.PairTable.rows_meet.Goals as goal

pub returns : goal.returns
returns c =
    rows_met c.args.self.now c.args.other.now c.args.i c.args.j c.row.result.now c.row-2.result.now c.row.ensures.long c.row-2.ensures.long c.row.ensures.kept c.row-2.ensures.kept c.fold.result
    (fold_from_yields_List _ meets false c.fold.result c.fold.ensures.ran
    (YieldsList-from_zip (YieldsList-from_slice c.row.result.now (cc)) (YieldsList-from_slice c.row-2.result.now (cc)))
    (λ a x b q k. search (rules, tests)))
