use Rattle.std.proofs.Common.{false, true, Decides, refl, sym, ◌∙◌, subst}
use Rattle.plan.specs.Runs.{Between}
use Rattle.vet.proofs.Faults.{between_is}
use Rattle.vet.proofs.find.is_between.Goals as goal

pub returns-then-has : goal.returns-then-has
returns-then-has g c =
    between_is (g.P.Plan.meaning c.args.plan.now) c.args.led.now c.args.state true _ c.requires (sym c.if-has.true ∙ c.has.ensures) c.marked.ensures

pub returns-else-has : goal.returns-else-has
returns-else-has g c =
    let m = g.P.Plan.meaning c.args.plan.now in
    subst (λ b. Decides b (Between m c.args.state)) (sym c.if-has.false)
    (between_is m c.args.led.now c.args.state false _ c.requires (sym c.if-has.false ∙ c.has.ensures) refl)
