use Rattle.std.proofs.Common.{sym, ◌∙◌, subst}
use Rattle.comparison.specs.Settings.{Setting, setting_of, standing}
use Rattle.comparison.specs.Histories.{Does}
use Rattle.comparison.proofs.Comparison.call.Goals as goal

pub returns-in-Load-clause-does : goal.returns-in-Load-clause-does
returns-in-Load-clause-does g c =
    let here = c.args.self.now in
    let setting : Setting = setting_of g.A.Plan.meaning g.B.Plan.meaning g.R.Rule.says here in
    subst (λ call. Does setting (standing here) call c.answer-in-Load.result (standing c.load.new.self)) (sym c.in-Load.is)
    (c.answer-in-Load.ensures ∙ c.load.ensures.answer, c.load.ensures.pairs)
