use Rattle.std.proofs.Common.{◌≡◌}
use Rattle.walk.specs.Lent.{Kept}
use Rattle.walk.specs.Walking.{Loaded}
use Rattle.walk.proofs.work.Traversal.load.Given as goal

abbrev pub invariant-loop-state : goal.invariant-loop-state
invariant-loop-state g l =
    Kept l.initial.self l.self
    × (l.self.reached.now ≡ l.initial.self.reached.now)
    × Loaded (g.P.Plan.meaning l.initial.self.plan.now).states l.first l.self.queued.now l.self.queue.now l.self.len l.state
