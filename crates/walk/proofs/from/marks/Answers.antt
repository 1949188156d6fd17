use Rattle.std.proofs.Common.{rules, tests, arith}
use Rattle.walk.proofs.Sets.{made, all_below}
use Rattle.walk.proofs.from.marks.Goals as goal

pub returns : goal.returns
returns g c =
    let m = g.P.Plan.meaning c.args.plan.now in
    let laws = g.met.P.Plan.lawful c.args.plan.now in
    all_below m.mark 128 (λ s past. laws.unmarked_past s (omega (arith, laws.few))) _
    (made _ _ m.mark (λ s yes q called. search (rules, tests)) c.from_fn.result 128 c.from_fn.ensures.items)
