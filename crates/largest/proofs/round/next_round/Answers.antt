use Rattle.std.proofs.Common.{refl, arith}
use Rattle.pairs.specs.Pairs.{kept_pairs}
use Rattle.pairs.proofs.Made.{kept_within}
use Rattle.largest.specs.Sweeping.{CoveredIn}
use Rattle.largest.proofs.Covering.{swept_covered}
use Rattle.largest.proofs.Sweeping.{rows_none, rows_more, rows_all, tells_both}
use Rattle.largest.proofs.round.next_round.Goals as goal

pub loop-s-init : goal.loop-s-init
loop-s-init c =
    let covered = c.covered-covered.result in
    (rows_none (CoveredIn c.args.next.now covered) (kept_pairs c.args.pairs.now), refl)

pub loop-s-preserved : goal.loop-s-preserved
loop-s-preserved c =
    let covered = c.covered-covered.result in
    let old = kept_pairs c.args.pairs.now in
    let mid = kept_pairs c.loop-s.pairs in (
      rows_more (CoveredIn c.args.next.now covered) old c.loop-s.s 128 mid _ c.loop-s.invariant.0 c.strike_row-struck.ensures.sweeps (λ x y has. (kept_within c.loop-s.pairs x y has).1),
      tells_both c.loop-s.struck c.strike_row-struck.result old mid _ c.loop-s.invariant.1 c.strike_row-struck.ensures.tells,
    )

pub returns : goal.returns
returns c =
    let next = c.args.next.now in
    let covered = c.covered-covered.result in
    let old = kept_pairs c.args.pairs.now in
    let new = kept_pairs c.loop-s.pairs in
    record {
      sweeps =
          swept_covered next covered old c.covered-covered.ensures.first c.covered-covered.ensures.second new
          (rows_all (CoveredIn next covered) old c.loop-s.s new (λ x y has. omega (arith, (kept_within c.args.pairs.now x y has).0, c.loop-s-test.false)) c.loop-s.invariant.0);
      tells = c.loop-s.invariant.1;
    }
