use Rattle.std.proofs.Common.{◌≡◌, Bool, List, length, ap, ◌∙◌, sym, subst, rules}
use Rattle.walk.specs.Lent.{work_of}
use Rattle.walk.specs.Walking.{Spread, Walked}
use Rattle.walk.proofs.Ways.{walking_next, walked_all}
use Rattle.walk.proofs.work.walk.Goals as goal

pub loop-state-preserved : goal.loop-state-preserved
loop-state-preserved g c =
    let m = g.P.Plan.meaning c.args.plan.now in
    let w = c.loop-state.work in
    let n = c.next_waiting.new.self in
    let v = c.expand.new.self in
    let same_plan : n.plan.now ≡ c.args.plan.now = search rules in
    let spread = subst (λ p. Spread (g.P.Plan.meaning p) c.in-Some.state (length ((g.P.Plan.meaning p).steps c.in-Some.state)) (work_of n) (work_of v)) same_plan c.expand.ensures.spread in (
      search rules,
      walking_next m (g.met.P.Plan.lawful c.args.plan.now) c.args.first.now (work_of w) (work_of n) (work_of v) w.done v.done c.in-Some.state
          c.loop-state.invariant.1 c.in-Some.ensures.1 (ap work_of c.in-Some.ensures.0) (search rules) c.in-Some.ensures.2 spread,
    )

pub returns-clause-came : goal.returns-clause-came
returns-clause-came g c =
    let m = g.P.Plan.meaning c.args.plan.now in
    let w = c.loop-state.work in
    let n = c.next_waiting.new.self in
    let walked : Walked m c.args.first.now n.reached.now =
    subst (λ x. Walked m c.args.first.now x.reached.now) (sym c.in_default.ensures.0)
    (walked_all m (g.met.P.Plan.lawful c.args.plan.now) c.args.first.now (work_of w) w.done c.loop-state.invariant.1 c.in_default.ensures.1) in
    let there : (reached : List Bool) → reached ≡ n.reached.now → Walked m c.args.first.now reached = λ reached is. subst (Walked m c.args.first.now) (sym is) walked in
    let named = ap (λ x. x.reached.ghost_name) c.in_default.ensures.0 ∙ c.loop-state.invariant.0.same_reached ∙ c.load.ensures.kept.same_reached in
    there _ (search rules)
