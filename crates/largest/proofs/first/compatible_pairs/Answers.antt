use Rattle.std.proofs.Common.{arith}
use Rattle.pairs.specs.Pairs.{kept_pairs}
use Rattle.closings.proofs.Tables.{tabulated}
use Rattle.closings.proofs.Nexts.{marked_below}
use Rattle.fitting.specs.Bisimilarity.{Compatible}
use Rattle.largest.proofs.Settling.{round_first}
use Rattle.largest.proofs.first.compatible_pairs.Goals as goal

pub returns : goal.returns
returns g c =
    let a = g.A.Plan.meaning c.args.compared.now.first.now in
    let b = g.B.Plan.meaning c.args.compared.now.second.now in
    let says = g.R.Rule.says c.args.compared.now.rule.now in
    let laws = g.met.A.Plan.lawful c.args.compared.now.first.now in
    let laws' = g.met.B.Plan.lawful c.args.compared.now.second.now in
    round_first a b says (kept_pairs c.from_fn.result)
    (tabulated c.from_fn.result (Compatible a b says)
    (λ s t both. (omega (arith, marked_below a laws s both.first_marked, laws.few), omega (arith, marked_below b laws' t both.second_marked, laws'.few)))
    (λ s t low low'. c.from_fn.ensures s t low low'))
