use Rattle.std.proofs.Common.{◌-◌}
use Rattle.walk.specs.Lent.{Kept, work_of}
use Rattle.walk.specs.Walking.{Walking}
use Rattle.walk.proofs.work.walk.Given as goal

abbrev pub invariant-loop-state : goal.invariant-loop-state
invariant-loop-state g l =
    Kept (record l.initial.work { done = l.work.done }) l.work
    × Walking (g.P.Plan.meaning l.plan) l.first (work_of l.work) l.work.done

abbrev pub decreases-loop-state : goal.decreases-loop-state
decreases-loop-state g l = (g.P.Plan.meaning l.plan).states - l.work.done
