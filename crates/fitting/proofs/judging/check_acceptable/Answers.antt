use Rattle.std.proofs.Common.{sym, refl, arith}
use Rattle.std.proofs.lemmas.Bool.{both_ways}
use Rattle.rules.specs.Rules.{Acceptable}
use Rattle.pairs.specs.Pairs.{kept_pairs}
use Rattle.closings.proofs.Nexts.{marked_below}
use Rattle.fitting.proofs.Scans.{all_none, all_more, row_more, first_such}
use Rattle.fitting.proofs.judging.check_acceptable.Goals as goal
use Rattle.fitting.proofs.judging.check_acceptable.Goals.{then-stands+in_default, else-stands}

pub loop-s-init : goal.loop-s-init
loop-s-init g c = all_none (kept_pairs c.args.pairs.now) _

pub loop-t-init : goal.loop-t-init
loop-t-init g c = λ y low has. absurd (omega (arith, low))

pub returns-in-Some : goal.returns-in-Some
returns-in-Some g c =
    let a = g.A.Plan.meaning c.args.compared.now.first.now in
    let b = g.B.Plan.meaning c.args.compared.now.second.now in
    let says = g.R.Rule.says c.args.compared.now.rule.now in
    let refused = c.in-Some.ensures in (
      c.loop-s.s,
      c.loop-t.t,
      c.in-Some.channel,
      (
        first_such (kept_pairs c.args.pairs.now) (Acceptable a b says) (λ x y. Acceptable a b says x y → ⊥) c.loop-s.s c.loop-t.t c.loop-s.invariant c.loop-t.invariant
            (λ x y holds never. never holds)
            (sym c.if-stands.ensures)
            (λ acceptable. both_ways (says c.in-Some.channel (a.code c.loop-s.s c.in-Some.channel) (b.code c.loop-t.t c.in-Some.channel)) refused.0.1 (acceptable.on_each c.in-Some.channel refused.0.0)),
        refused,
      ),
      refl,
    )

pub loop-t-preserved : goal.loop-t-preserved
loop-t-preserved g c =
    let a = g.A.Plan.meaning c.args.compared.now.first.now in
    let b = g.B.Plan.meaning c.args.compared.now.second.now in
    let says = g.R.Rule.says c.args.compared.now.rule.now in
    elim c.if-stands.branch [
      | then-stands+in_default w ↦
          row_more (kept_pairs c.args.pairs.now) (Acceptable a b says) c.loop-s.s c.loop-t.t c.loop-t.invariant
          (λ has. record { as_many = c.requires.as_many; on_each = w.in_default.ensures })
      | else-stands w ↦
          row_more (kept_pairs c.args.pairs.now) (Acceptable a b says) c.loop-s.s c.loop-t.t c.loop-t.invariant
          (λ has. absurd (both_ways (kept_pairs c.args.pairs.now c.loop-s.s c.loop-t.t) (sym w.if-stands.ensures) has))
    ]

pub loop-s-preserved : goal.loop-s-preserved
loop-s-preserved g c =
    let b = g.B.Plan.meaning c.args.compared.now.second.now in
    let laws = g.met.B.Plan.lawful c.args.compared.now.second.now in
    all_more (kept_pairs c.args.pairs.now) _ c.loop-s.s c.loop-t.t c.loop-s.invariant c.loop-t.invariant
    (λ y has. omega (arith, marked_below b laws y (c.requires.only_marked c.loop-s.s y has).1))

pub returns : goal.returns
returns g c = λ s t has.
    let a = g.A.Plan.meaning c.args.compared.now.first.now in
    let laws = g.met.A.Plan.lawful c.args.compared.now.first.now in
    c.loop-s.invariant s t (omega (arith, marked_below a laws s (c.requires.only_marked s t has).0)) has
