use Rattle.walk.proofs.Ways.{from_one}
use Rattle.walk.proofs.from.led_from.Goals as goal

pub returns : goal.returns
returns g c =
    from_one (g.P.Plan.meaning c.args.plan.now) (g.met.P.Plan.lawful c.args.plan.now) c.args.state _ _
    c.only.ensures c.led_from_all.ensures
