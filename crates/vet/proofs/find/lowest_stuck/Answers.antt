use Rattle.std.proofs.Common.{arith, rules, tests}
use Rattle.std.proofs.lemmas.Iterator.{first_from_Range}
use Rattle.plan.specs.Runs.{Stuck}
use Rattle.vet.proofs.Faults.{lowest_is}
use Rattle.vet.proofs.find.lowest_stuck.Goals as goal

pub returns : goal.returns
returns g c =
    let m = g.P.Plan.meaning c.args.plan.now in
    lowest_is m (g.met.P.Plan.lawful c.args.plan.now) (Stuck m) (λ u fault. fault.0) _ _ c.find.result (omega arith) c.states.ensures
    (first_from_Range _ _ _ _ _ _ c.find.ensures.ran (λ x q k. search (rules, tests)) (λ x q k. search (rules, tests)))
