use Rattle.std.proofs.Common.{get_or, refl, subst, arith}
use Rattle.comparison.specs.Settings.{Setting, setting_of, standing}
use Rattle.comparison.specs.Histories.{Does, no_call}
use Rattle.comparison.proofs.Lists.{setting_stays, same_again, one_history, running_none, running_more, ran_all}
use Rattle.comparison.proofs.Comparison.run.Goals as goal

pub returns-then-answers-calls-clause-only : goal.returns-then-answers-calls-clause-only
returns-then-answers-calls-clause-only g c = one_history _

pub loop-i-init : goal.loop-i-init
loop-i-init g c = (running_none _ _ _ _, record { same_first = refl; same_second = refl; same_rule = refl }, c.requires)

pub loop-i-preserved : goal.loop-i-preserved
loop-i-preserved g c =
    let start = c.args.self.now in
    let setting : Setting = setting_of g.A.Plan.meaning g.B.Plan.meaning g.R.Rule.says start in
    let stays = setting_stays g.A.Plan.meaning g.B.Plan.meaning g.R.Rule.says start c.loop-i.self c.loop-i.invariant.1 in (
      running_more setting (standing start) c.args.calls.now c.args.answers.now c.loop-i.answers (standing c.loop-i.self) (standing c.call.new.self) c.loop-i.i c.call.result
          (omega arith) c.loop-i.invariant.0
          (subst (λ (x : Setting). Does x (standing c.loop-i.self) (get_or c.args.calls.now c.loop-i.i no_call) c.call.result (standing c.call.new.self)) stays c.call.ensures.does),
      same_again start c.loop-i.self c.call.new.self c.loop-i.invariant.1 c.call.ensures.same,
      c.call.ensures.consistent,
    )

pub returns-clause-ran : goal.returns-clause-ran
returns-clause-ran g c =
    let start = c.args.self.now in
    let setting : Setting = setting_of g.A.Plan.meaning g.B.Plan.meaning g.R.Rule.says start in
    ran_all setting (standing start) c.args.calls.now c.args.answers.now c.loop-i.answers (standing c.loop-i.self) c.loop-i.i (omega arith) c.if-answers-calls.false c.loop-i.invariant.0

pub returns-clause-only : goal.returns-clause-only
returns-clause-only g c = one_history _
