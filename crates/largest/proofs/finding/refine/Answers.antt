use Rattle.std.proofs.lemmas.Bool.{both_ways}
use Rattle.pairs.specs.Pairs.{kept_pairs}
use Rattle.largest.proofs.Refining.{LastRound, round_more, round_last, fit_found, fit_missed, asked_starts}
use Rattle.largest.proofs.finding.refine.Goals as goal

pub loop-next-init : goal.loop-next-init
loop-next-init g c = (0, c.compatible_pairs-pairs.ensures)

pub loop-next-smaller : goal.loop-next-smaller
loop-next-smaller g c = c.loop-next-test.ensures.tells

pub loop-next-preserved : goal.loop-next-preserved
loop-next-preserved g c =
    let next = c.next-next.result in
    round_more (g.A.Plan.meaning c.args.compared.now.first.now) (g.B.Plan.meaning c.args.compared.now.second.now) (g.R.Rule.says c.args.compared.now.rule.now)
    next c.next-next.ensures.first c.next-next.ensures.second
    (kept_pairs c.loop-next.pairs) (kept_pairs c.next_round.new.pairs) c.loop-next.invariant c.next_round.ensures.sweeps

pub returns-then-stands : goal.returns-then-stands
returns-then-stands g c =
    let a = g.A.Plan.meaning c.args.compared.now.first.now in
    let b = g.B.Plan.meaning c.args.compared.now.second.now in
    let says = g.R.Rule.says c.args.compared.now.rule.now in
    let next = c.next-next.result in
    let pairs = kept_pairs c.next_round.new.pairs in
    let last : LastRound a b says pairs =
    round_last a b says next c.next-next.ensures.first c.next-next.ensures.second (kept_pairs c.loop-next.pairs) pairs c.loop-next.invariant c.next_round.ensures.sweeps
    c.loop-next-test.ensures.tells in
    fit_found a b says pairs last (asked_starts pairs _ _ _ _ _ c.start.ensures c.start-2.ensures c.if-stands.ensures)

pub returns-else-stands : goal.returns-else-stands
returns-else-stands g c =
    let a = g.A.Plan.meaning c.args.compared.now.first.now in
    let b = g.B.Plan.meaning c.args.compared.now.second.now in
    let says = g.R.Rule.says c.args.compared.now.rule.now in
    let next = c.next-next.result in
    let pairs = kept_pairs c.next_round.new.pairs in
    let last : LastRound a b says pairs =
    round_last a b says next c.next-next.ensures.first c.next-next.ensures.second (kept_pairs c.loop-next.pairs) pairs c.loop-next.invariant c.next_round.ensures.sweeps
    c.loop-next-test.ensures.tells in
    fit_missed a b says pairs last (both_ways _ (asked_starts pairs _ _ _ _ _ c.start.ensures c.start-2.ensures c.if-stands.ensures))
