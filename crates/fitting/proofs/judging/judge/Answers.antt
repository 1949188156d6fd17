use Rattle.std.proofs.Common.{Err, sym, ap, ◌∙◌, subst}
use Rattle.std.proofs.lemmas.Result.{err_from_is_err_and}
use Rattle.pairs.specs.Pairs.{kept_pairs}
use Rattle.fitting.specs.declared.misfit.Misfit.TheVariants.{Plans}
use Rattle.fitting.specs.Judging.{PairsAsked, Judges}
use Rattle.fitting.proofs.Verdicts.{plans_pass, plans_refuse, told}
use Rattle.fitting.proofs.judging.judge.Goals as goal

pub returns-in_err-compare_plans : goal.returns-in_err-compare_plans
returns-in_err-compare_plans g c =
    let a = g.A.Plan.meaning c.args.first.now.plan in
    let b = g.B.Plan.meaning c.args.second.now.plan in
    let says = g.R.Rule.says c.args.rule.now in
    let pairs = kept_pairs c.args.pairs.now in
    let p = err_from_is_err_and c.from_residual.result c.from_residual.ensures.1 in
    let refused : Judges a b says pairs (Err (Plans c.in_err-compare_plans.field-0.0)) =
    plans_refuse a b (λ e. Err (Plans e)) (PairsAsked a b says pairs) c.in_err-compare_plans.field-0.0 c.in_err-compare_plans.ensures in
    let t = told a b says pairs c.from_residual.result (g.met.A.Plan.lawful c.args.first.now.plan) (g.met.B.Plan.lawful c.args.second.now.plan) c.requires.only_marked
    (subst (Judges a b says pairs) (sym (p.1 ∙ ap Err p.2)) refused) in
    record { judges = t.judges; only = t.only; accepts = t.accepts; agrees = t.agrees }

pub returns : goal.returns
returns g c =
    let a = g.A.Plan.meaning c.args.first.now.plan in
    let b = g.B.Plan.meaning c.args.second.now.plan in
    let says = g.R.Rule.says c.args.rule.now in
    let pairs = kept_pairs c.args.pairs.now in
    let plans = c.in_ok-compare_plans.ensures in
    let r = c.judge_pairs.result in
    let asked : PairsAsked a b says pairs r =
    subst (λ m. PairsAsked m b says pairs r) (ap g.A.Plan.meaning c.plan.ensures)
    (subst (λ n. PairsAsked (g.A.Plan.meaning c.plan.result.now) n says pairs r) (ap g.B.Plan.meaning c.plan-2.ensures) c.judge_pairs.ensures) in
    let t = told a b says pairs r (g.met.A.Plan.lawful c.args.first.now.plan) (g.met.B.Plan.lawful c.args.second.now.plan) c.requires.only_marked
    (plans_pass a b (λ e. Err (Plans e)) (PairsAsked a b says pairs) r plans.first_sound plans.second_sound plans.as_many_channels asked) in
    record { judges = t.judges; only = t.only; accepts = t.accepts; agrees = t.agrees }
