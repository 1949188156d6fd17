use Rattle.std.proofs.Common.{◌≡◌, false, get_or, refl, below_more, arith}
use Rattle.pairs.specs.Pairs.{kept_pairs, RowSays}
use Rattle.pairs.proofs.Made.{row_more, given_stays}
use Rattle.pairs.proofs.table.PairTable.from_rows.Goals as goal

pub loop-second-preserved : goal.loop-second-preserved
loop-second-preserved g c =
    let old = kept_pairs c.loop-second.pairs in
    let new = kept_pairs c.set.new.self in
    let s = c.loop-first.first in
    let t = c.loop-second.second in
    let row = c.rows-row.result in (
      c.loop-second.invariant.0,
      given_stays (goal.F-post g c.args.rows) old new s t (get_or row t false) c.set.ensures c.loop-second.invariant.1,
      row_more (λ x y says. says ≡ get_or row y false) old new s t (get_or row t false) c.set.ensures c.loop-first-test.true c.loop-second-test.true refl c.loop-second.invariant.2,
    )

pub loop-first-preserved : goal.loop-first-preserved
loop-first-preserved g c =
    let s = c.loop-first.first in
    let pairs = kept_pairs c.loop-second.pairs in (
      c.loop-second.invariant.0,
      below_more (RowSays (goal.F-post g c.args.rows) pairs) s c.loop-second.invariant.1
          (c.rows-row.result, c.rows-row.ensures, λ t low. c.loop-second.invariant.2 t (omega (arith, c.loop-second-test.false))),
    )
