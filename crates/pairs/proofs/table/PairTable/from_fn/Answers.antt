use Rattle.pairs.specs.Pairs.{kept_pairs}
use Rattle.pairs.proofs.Made.{row_more, made_stays}
use Rattle.pairs.proofs.table.PairTable.from_fn.Goals as goal

pub loop-second-preserved : goal.loop-second-preserved
loop-second-preserved g c =
    let says = goal.F-post g c.args.test in
    let old = kept_pairs c.loop-second.pairs in
    let new = kept_pairs c.set.new.self in
    let s = c.loop-first.first in
    let t = c.loop-second.second in (
      c.loop-second.invariant.0,
      made_stays says old new s t c.test.result c.set.ensures c.loop-second.invariant.1,
      row_more says old new s t c.test.result c.set.ensures c.loop-first-test.true c.loop-second-test.true c.test.ensures c.loop-second.invariant.2,
    )
