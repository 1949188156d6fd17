use Rattle.std.proofs.Common.{◌∙◌, length, sym, rules, tests, arith}
use Rattle.std.specs.List.{range_with_len}
use Rattle.std.proofs.lemmas.Iterator.{YieldsList-from_range, YieldsList-from_map}
use Rattle.std.proofs.lemmas.Iterator.Consumers.{YieldsList-at, sum_by_from_yields_List, fits_by_from_yields_list}
use Rattle.pairs.specs.Pairs.{kept_pairs}
use Rattle.pairs.specs.Listing.{partners_below}
use Rattle.pairs.proofs.Ascending.{lists_all}
use Rattle.pairs.proofs.Counting.{rows_counted}
use Rattle.pairs.proofs.Listed.{count_is, pairs_length}
use Rattle.pairs.proofs.table.PairTable.count.Goals as goal

pub sum-requires-clause-fits : goal.sum-requires-clause-fits
sum-requires-clause-fits c =
    let pairs = kept_pairs c.args.self.now in
    fits_by_from_yields_list (λ first. length (partners_below pairs first 128)) (range_with_len 0 128) c.map.result _
    (YieldsList-from_map _ (λ first. length (partners_below pairs first 128)) (YieldsList-at c.map.ensures.source (YieldsList-from_range 0 128 128 (cc) (omega arith))) c.map.ensures.closure (λ x r q k. search (rules, tests)))
    (omega (arith, rows_counted pairs 128, pairs_length pairs 128))

pub returns-clause-count : goal.returns-clause-count
returns-clause-count c =
    let pairs = kept_pairs c.args.self.now in
    sum_by_from_yields_List (λ first. length (partners_below pairs first 128)) (range_with_len 0 128) c.map.result _ c.sum.ensures.ran
    (YieldsList-from_map _ (λ first. length (partners_below pairs first 128)) (YieldsList-at c.map.ensures.source (YieldsList-from_range 0 128 128 (cc) (omega arith))) c.map.ensures.closure (λ x r q k. search (rules, tests)))
    ∙ rows_counted pairs 128
    ∙ sym (count_is pairs)

pub returns-clause-lists : goal.returns-clause-lists
returns-clause-lists c = lists_all (kept_pairs c.args.self.now)
