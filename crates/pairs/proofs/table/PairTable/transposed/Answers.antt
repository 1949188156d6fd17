use Rattle.std.proofs.Common.{rules}
use Rattle.pairs.specs.Pairs.{kept_pairs}
use Rattle.pairs.proofs.Made.{made_is, kept_within}
use Rattle.pairs.proofs.table.PairTable.transposed.Goals as goal

pub returns : goal.returns
returns c =
    made_is c.from_fn.result (λ x y. kept_pairs c.args.self.now y x)
    (λ s t has. let below = kept_within c.args.self.now t s has in (below.1, below.0))
    (λ s t low low'. let h = c.from_fn.ensures s t low low' in search rules)
