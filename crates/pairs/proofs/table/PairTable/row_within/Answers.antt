use Rattle.std.proofs.Common.{true, inl, inr, ⊎_elim, rules, tests}
use Rattle.std.proofs.lemmas.Iterator.{YieldsList-from_slice, YieldsList-from_zip}
use Rattle.std.proofs.lemmas.Iterator.Consumers.{fold_from_yields_List}
use Rattle.pairs.proofs.Folding.{keeps, row_kept}
use Rattle.pairs.proofs.Within.{behind_within}
use Rattle.pairs.proofs.table.PairTable.row_within.Goals as goal

pub returns-then-i-ge-MOST_STATES : goal.returns-then-i-ge-MOST_STATES
returns-then-i-ge-MOST_STATES c =
    behind_within c.args.self.now c.args.other.now c.args.i c.args.j c.row_count.result c.row_count.ensures
    (⊎_elim inl (λ both. inr both.1) c.then-i-ge-MOST_STATES.either)

pub returns : goal.returns
returns c =
    row_kept c.args.self.now c.args.other.now c.args.i c.args.j c.row.result.now c.row-2.result.now c.row.ensures.long c.row-2.ensures.long c.row.ensures.kept c.row-2.ensures.kept c.fold.result
    (fold_from_yields_List _ keeps true c.fold.result c.fold.ensures.ran
    (YieldsList-from_zip (YieldsList-from_slice c.row.result.now (cc)) (YieldsList-from_slice c.row-2.result.now (cc)))
    (λ a x b q k. search (rules, tests)))
