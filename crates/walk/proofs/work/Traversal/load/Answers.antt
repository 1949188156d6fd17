use Rattle.std.proofs.Common.{◌+◌, ◌<◌, refl, sym, subst, arith, rules}
use Rattle.std.proofs.lemmas.Bool.{both_ways}
use Rattle.walk.specs.Walking.{Loaded}
use Rattle.walk.proofs.Ways.{load_none, load_other, load_place, load_more, loaded_at}
use Rattle.walk.proofs.work.Traversal.load.Goals as goal
use Rattle.walk.proofs.work.Traversal.load.Goals.{then-has, else-has}

pub loop-state-init : goal.loop-state-init
loop-state-init g c = (
  search rules,
  refl,
  loaded_at _ 0 c.args.first.now _ _ _ _ _ _ refl refl c.requires.empty (load_none _ _ _ _ c.requires.queued_long c.requires.queue_long c.requires.none_queued),
)

pub enqueue-requires-clause-in_queue : goal.enqueue-requires-clause-in_queue
enqueue-requires-clause-in_queue g c =
    load_place _ _ _ _ _ _ c.loop-state.invariant.2 (omega (arith, c.loop-state-test.true, c.states-state-end.ensures))

pub loop-state-preserved : goal.loop-state-preserved
loop-state-preserved g c =
    let n = (g.P.Plan.meaning c.args.self.now.plan.now).states in
    let i = c.loop-state.state in
    let low : i < n = omega (arith, c.loop-state-test.true, c.states-state-end.ensures) in
    let at = loaded_at n (i + 1) c.args.first.now in
    elim c.if-has.branch [
      | then-has w ↦ (
        search rules,
        search rules,
        at _ c.if-has.self.queued.now _ c.if-has.self.queue.now _ c.if-has.self.len (search rules) (search rules) (search rules)
            (load_more n _ _ _ _ i c.loop-state.invariant.2 low (sym w.if-has.ensures)),
      )
      | else-has w ↦ (
        search rules,
        search rules,
        subst (λ u. Loaded n c.args.first.now u.queued.now u.queue.now u.len (i + 1)) (sym w.self-is)
            (load_other n _ _ _ _ i c.loop-state.invariant.2 low (both_ways _ (sym w.if-has.ensures))),
      )
    ]
