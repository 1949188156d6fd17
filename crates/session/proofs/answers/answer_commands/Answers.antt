use Rattle.std.proofs.Common.{◌≤◌, length, take, refl, ap, ◌∙◌, arith}
use Rattle.std.proofs.lemmas.List.{length-take}
use Rattle.rules.specs.Rules.{exact_says}
use Rattle.comparison.specs.Settings.{Setting, setting_of, standing}
use Rattle.session.specs.Session.{Compares}
use Rattle.session.proofs.Answering.{answered_from}
use Rattle.session.proofs.answers.answer_commands.Goals as goal

pub returns : goal.returns
returns g c =
    let comparison = c.open-comparison.result in
    let setting : Setting = setting_of g.A.Plan.meaning g.B.Plan.meaning (λ _. exact_says) comparison in
    let n = c.make_calls-n.result in
    let calls = take n c.make_calls-n.new.calls in
    let compares : Compares (g.A.Plan.meaning c.args.first) (g.B.Plan.meaning c.args.second) setting = record {
      first_is = ap (λ v. g.A.Plan.meaning v.plan) c.open-comparison.ensures.first ∙ ap g.A.Plan.meaning c.vet.ensures.same_plan;
      second_is = ap (λ v. g.B.Plan.meaning v.plan) c.open-comparison.ensures.second ∙ ap g.B.Plan.meaning c.vet-2.ensures.same_plan;
      rule_is = refl;
      first_found = c.open-comparison.ensures.consistent.first_found;
      second_found = c.open-comparison.ensures.consistent.second_found;
    } in
    let places : length calls ≤ length c.args.answers.now =
    simp length-take (omega (arith, c.make_calls-n.ensures.count, c.requires.answers)) in
    let made = c.make_calls-n.ensures.made in
    answered_from _ _ c.args.file.now c.args.commands.now setting (standing comparison) (standing c.run.new.self) calls c.args.answers.now c.run.new.answers c.run.result
    compares c.open-comparison.ensures.none made places c.run.ensures.ran
