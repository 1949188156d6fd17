use Rattle.std.proofs.Common.{◌+◌, sym, subst, arith, rules}
use Rattle.walk.specs.Lent.{work_of}
use Rattle.walk.specs.Walking.{Reached, Spread}
use Rattle.walk.proofs.Ways.{spread_more}
use Rattle.walk.proofs.work.Traversal.expand.Goals as goal

pub loop-i-preserved : goal.loop-i-preserved
loop-i-preserved g c =
    let m = g.P.Plan.meaning c.args.self.now.plan.now in
    let reached = subst (λ p. Reached (g.P.Plan.meaning p) c.step.result (work_of c.loop-i.self) (work_of c.reach.new.self)) c.loop-i.invariant.0.same_plan c.reach.ensures.reached in (
      search rules,
      subst (Spread m c.args.state (c.loop-i.i + 1) _) (sym reached)
          (spread_more m c.args.state c.loop-i.i c.step.result _ _ (g.met.P.Plan.lawful c.args.self.now.plan.now)
          (omega (arith, c.step_count-i-end.ensures)) c.step.ensures c.loop-i.invariant.1),
    )
