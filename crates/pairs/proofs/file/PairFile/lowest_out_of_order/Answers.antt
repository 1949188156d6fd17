use Rattle.std.proofs.Common.{◌≡◌, true, false, not, rules, tests}
use Rattle.std.proofs.lemmas.Iterator.{first_from_Range}
use Rattle.pairs.specs.PairFile.{out_of_order}
use Rattle.pairs.proofs.Files.{lowest_from_first}
use Rattle.pairs.proofs.file.PairFile.lowest_out_of_order.Goals as goal

pub returns : goal.returns
returns c =
    let b = c.args.self.now.bytes.now in
    lowest_from_first b _ c.find.result c.args.self.now.count_is
    (first_from_Range _ _ _ _ (λ i. false ≡ not (out_of_order b i)) (λ i. true ≡ not (out_of_order b i)) c.find.ensures.ran (λ x q k. search (rules, tests)) (λ x q k. search (rules, tests)))
