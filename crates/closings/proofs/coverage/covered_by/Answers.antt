use Rattle.std.proofs.Common.{rules}
use Rattle.pairs.specs.Pairs.{kept_pairs}
use Rattle.pairs.proofs.Made.{kept_within}
use Rattle.closings.specs.Tables.{CoveredBy}
use Rattle.closings.proofs.Tables.{tabulated}
use Rattle.closings.proofs.coverage.covered_by.Goals as goal

pub returns : goal.returns
returns c =
    let next = c.args.next.now in
    let pairs = c.args.pairs.now in
    tabulated c.from_fn.result (CoveredBy (kept_pairs next) (kept_pairs pairs))
    (λ s x found. ((kept_within next s found.0 found.1).0, (kept_within pairs x found.0 found.2).0))
    (λ s x low low'. let h = c.from_fn.ensures s x low low' in search rules)
