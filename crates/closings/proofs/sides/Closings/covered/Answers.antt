use Rattle.std.proofs.Common.{subst}
use Rattle.pairs.specs.Pairs.{Pairs, kept_pairs}
use Rattle.closings.specs.Tables.{Tabulates, CoveredBy}
use Rattle.closings.proofs.sides.Closings.covered.Goals as goal

pub returns-clause-second : goal.returns-clause-second
returns-clause-second c =
    subst (λ (p : Pairs). Tabulates (CoveredBy (kept_pairs c.args.self.now.first) p) (kept_pairs c.covered_by-2.result))
    c.transposed.ensures c.covered_by-2.ensures
