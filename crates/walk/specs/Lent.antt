-- The work of a walk as it stands in the slices that are lent for it.
use Rattle.std.specs.Prelude.{◌≡◌}
use Rattle.walk.specs.declared.work.Traversal.{Traversal}
use Rattle.walk.specs.Walking.{Work}

-- what stands in the lent slices
abbrev pub work_of : {P : Type 0} → Traversal P → Work
work_of w = record { reached = w.reached.now; queued = w.queued.now; queue = w.queue.now; len = w.len }

-- the same plan is walked, in the same lent slices, and the same states are done
pub record Kept {P : Type 0} (w v : Traversal P) : Type 0 where
  pub same_plan : v.plan.now ≡ w.plan.now
  pub same_reached : v.reached.ghost_name ≡ w.reached.ghost_name
  pub same_queued : v.queued.ghost_name ≡ w.queued.ghost_name
  pub same_queue : v.queue.ghost_name ≡ w.queue.ghost_name
  pub same_done : v.done ≡ w.done
