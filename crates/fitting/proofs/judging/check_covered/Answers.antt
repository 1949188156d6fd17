use Rattle.std.proofs.Common.{sym, refl, arith, below_more}
use Rattle.std.proofs.lemmas.Bool.{both_ways}
use Rattle.pairs.specs.Pairs.{Has, kept_pairs}
use Rattle.fitting.specs.Bisimilarity.{Matched}
use Rattle.fitting.specs.Judging.{IsUncovered, SomeUncovered}
use Rattle.fitting.specs.Covering.{uncovered_in, side_at}
use Rattle.closings.proofs.Nexts.{marked_below}
use Rattle.fitting.proofs.Scans.{all_none, all_more, row_more, first_such}
use Rattle.fitting.proofs.Coverage.{uncovered_decides, sides_match, matched_covered, sides_none, sides_more, first_at}
use Rattle.fitting.proofs.judging.check_covered.Goals as goal
use Rattle.fitting.proofs.judging.check_covered.Goals.{then-stands+else-loop-side-test, else-stands}

pub loop-s-init : goal.loop-s-init
loop-s-init g c = all_none (kept_pairs c.args.pairs.now) _

pub loop-t-init : goal.loop-t-init
loop-t-init g c = λ y low has. absurd (omega (arith, low))

pub loop-side-init : goal.loop-side-init
loop-side-init g c = sides_none _ _ (kept_pairs c.args.pairs.now) c.loop-s.s c.loop-t.t

pub loop-closing-init : goal.loop-closing-init
loop-closing-init g c = λ x low uncovered. absurd (omega (arith, low))

pub loop-closing-preserved : goal.loop-closing-preserved
loop-closing-preserved g c =
    let a = g.A.Plan.meaning c.args.compared.now.first.now in
    let b = g.B.Plan.meaning c.args.compared.now.second.now in
    let pairs = kept_pairs c.args.pairs.now in
    let s = c.loop-s.s in
    let t = c.loop-t.t in
    let side = side_at c.loop-side.side-index in
    let marked = c.requires.only_marked s t (sym c.if-stands.ensures) in
    below_more (λ x. IsUncovered a b pairs side s t x → ⊥) c.loop-closing.closing c.loop-closing.invariant
    (λ uncovered.
    both_ways (uncovered_in c.args.covering.now side s t c.loop-closing.closing) (sym c.if-is_uncovered.ensures)
    ((uncovered_decides a b pairs c.args.covering.now c.requires.covers s t marked.0 marked.1 side c.loop-closing.closing).1 uncovered))

pub loop-side-preserved : goal.loop-side-preserved
loop-side-preserved g c =
    let a = g.A.Plan.meaning c.args.compared.now.first.now in
    let b = g.B.Plan.meaning c.args.compared.now.second.now in
    sides_more a b (kept_pairs c.args.pairs.now) (g.met.A.Plan.lawful c.args.compared.now.first.now) (g.met.B.Plan.lawful c.args.compared.now.second.now)
    c.loop-s.s c.loop-t.t c.loop-side.side-index c.loop-closing.closing c.loop-closing-test.false c.loop-side.invariant c.loop-closing.invariant

pub loop-t-preserved : goal.loop-t-preserved
loop-t-preserved g c =
    let a = g.A.Plan.meaning c.args.compared.now.first.now in
    let b = g.B.Plan.meaning c.args.compared.now.second.now in
    let pairs = kept_pairs c.args.pairs.now in
    elim c.if-stands.branch [
      | then-stands+else-loop-side-test w ↦
          row_more pairs (Matched a b (Has pairs)) c.loop-s.s c.loop-t.t c.loop-t.invariant
          (λ has.
          let marked = c.requires.only_marked c.loop-s.s c.loop-t.t has in
          sides_match a b pairs c.args.covering.now c.requires.covers c.loop-s.s c.loop-t.t marked.0 marked.1
          (λ j low. w.loop-side.invariant j (omega (arith, low, w.loop-side-test.false))))
      | else-stands w ↦
          row_more pairs (Matched a b (Has pairs)) c.loop-s.s c.loop-t.t c.loop-t.invariant
          (λ has. absurd (both_ways (pairs c.loop-s.s c.loop-t.t) (sym w.if-stands.ensures) has))
    ]

pub loop-s-preserved : goal.loop-s-preserved
loop-s-preserved g c =
    let b = g.B.Plan.meaning c.args.compared.now.second.now in
    let laws = g.met.B.Plan.lawful c.args.compared.now.second.now in
    all_more (kept_pairs c.args.pairs.now) _ c.loop-s.s c.loop-t.t c.loop-s.invariant c.loop-t.invariant
    (λ y has. omega (arith, marked_below b laws y (c.requires.only_marked c.loop-s.s y has).1))

pub returns-then-is_uncovered : goal.returns-then-is_uncovered
returns-then-is_uncovered g c =
    let a = g.A.Plan.meaning c.args.compared.now.first.now in
    let b = g.B.Plan.meaning c.args.compared.now.second.now in
    let pairs = kept_pairs c.args.pairs.now in
    let s = c.loop-s.s in
    let t = c.loop-t.t in
    let i = c.loop-side.side-index in
    let x = c.loop-closing.closing in
    let has : Has pairs s t = sym c.if-stands.ensures in
    let marked = c.requires.only_marked s t has in
    let uncovered : IsUncovered a b pairs (side_at i) s t x =
    (uncovered_decides a b pairs c.args.covering.now c.requires.covers s t marked.0 marked.1 (side_at i) x).0 (sym c.if-is_uncovered.ensures) in (
      side_at i,
      s,
      t,
      x,
      (
        first_such pairs (Matched a b (Has pairs)) (SomeUncovered a b pairs) s t c.loop-s.invariant c.loop-t.invariant (matched_covered a b pairs) has (side_at i, x, uncovered),
        first_at a b pairs s t i x c.loop-side-test.true c.loop-side.invariant (uncovered, c.loop-closing.invariant),
      ),
      refl,
    )

pub returns-after-loop-s : goal.returns-after-loop-s
returns-after-loop-s g c = λ s t has.
    let a = g.A.Plan.meaning c.args.compared.now.first.now in
    let laws = g.met.A.Plan.lawful c.args.compared.now.first.now in
    c.loop-s.invariant s t (omega (arith, marked_below a laws s (c.requires.only_marked s t has).0)) has
