use Rattle.walk.specs.Lent.{Kept, work_of}
use Rattle.walk.specs.Walking.{Spread}
use Rattle.walk.proofs.work.Traversal.expand.Given as goal

abbrev pub invariant-loop-i : goal.invariant-loop-i
invariant-loop-i g l =
    Kept l.initial.self l.self
    × Spread (g.P.Plan.meaning l.initial.self.plan.now) l.state l.i (work_of l.initial.self) (work_of l.self)
