use Rattle.std.proofs.Common.{false, get_or, arith}
use Rattle.std.proofs.lemmas.Bool.Decides.{Decides-at}
use Rattle.pairs.specs.Pairs.{kept_pairs}
use Rattle.closings.specs.Tables.{Follows}
use Rattle.closings.proofs.Tables.{tabulated}
use Rattle.closings.proofs.Nexts.{marked_below, next_below}
use Rattle.closings.proofs.next.next_closings.Goals as goal

pub returns : goal.returns
returns g c =
    let m = g.P.Plan.meaning c.args.plan.now in
    let laws = g.met.P.Plan.lawful c.args.plan.now in
    tabulated c.from_rows.result (Follows m)
    (λ s x next. (omega (arith, marked_below m laws s next.0, laws.few), omega (arith, next_below m laws s x next.1.0, laws.few)))
    (λ s x low low'.
    let row = c.from_rows.ensures s low in
    Decides-at (kept_pairs c.from_rows.result s x) (get_or row.0 x false) (row.2 x low') (row.1 x))
