use Rattle.std.proofs.Common.{rules}
use Rattle.walk.proofs.Reaching.{place_left}
use Rattle.walk.proofs.work.Traversal.reach.Goals as goal

pub enqueue-requires-clause-in_queue : goal.enqueue-requires-clause-in_queue
enqueue-requires-clause-in_queue g c = place_left _ _ c.args.target c.requires.room c.requires.inside (search rules)
