use Rattle.std.proofs.Common.{cond, eqb, sym, ◌∙◌, rules, tests, arith}
use Rattle.std.proofs.lemmas.Iterator.{YieldsList-from_slice, YieldsList-from_map}
use Rattle.std.proofs.lemmas.Iterator.Consumers.{sum_by_from_yields_List, fits_by_from_yields_list}
use Rattle.pairs.specs.Pairs.{kept_pairs}
use Rattle.pairs.proofs.Counting.{row_counted}
use Rattle.pairs.proofs.Listed.{partners_length}
use Rattle.pairs.proofs.Reading.{kept_small}
use Rattle.pairs.proofs.Within.{none_counts}
use Rattle.pairs.proofs.table.PairTable.row_count.Goals as goal

pub sum-requires-clause-fits : goal.sum-requires-clause-fits
sum-requires-clause-fits c =
    let pairs = kept_pairs c.args.self.now in
    fits_by_from_yields_list (λ x. cond (eqb x 1) 1 0) c.row.result.now c.map.result _
    (YieldsList-from_map _ (λ x. cond (eqb x 1) 1 0) (YieldsList-from_slice c.row.result.now (cc)) c.map.ensures.closure (λ x r q k. search (rules, tests)))
    (omega (arith, row_counted c.args.self.now c.args.first c.row.result.now c.row.ensures.long c.row.ensures.kept, partners_length pairs c.args.first 128))

pub returns-then-first-ge-MOST_STATES : goal.returns-then-first-ge-MOST_STATES
returns-then-first-ge-MOST_STATES c =
    let table = c.args.self.now in
    sym (none_counts (kept_pairs table) c.args.first 128 (λ t has. absurd (omega (arith, (kept_small table c.args.first t has).1, (kept_small table c.args.first t has).0, c.if-first-ge-MOST_STATES))))

pub returns : goal.returns
returns c =
    sum_by_from_yields_List (λ x. cond (eqb x 1) 1 0) c.row.result.now c.map.result _ c.sum.ensures.ran
    (YieldsList-from_map _ (λ x. cond (eqb x 1) 1 0) (YieldsList-from_slice c.row.result.now (cc)) c.map.ensures.closure (λ x r q k. search (rules, tests)))
    ∙ row_counted c.args.self.now c.args.first c.row.result.now c.row.ensures.long c.row.ensures.kept
