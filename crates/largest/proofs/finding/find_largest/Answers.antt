use Rattle.std.proofs.Common.{Err, Result, sym, ap, ◌∙◌, subst}
use Rattle.std.proofs.lemmas.Result.{err_from_is_err_and}
use Rattle.pairs.specs.declared.table.PairTable.{PairTable}
use Rattle.fitting.proofs.Verdicts.{plans_pass, plans_refuse}
use Rattle.largest.specs.declared.nofit.NoFit.{NoFit}
use Rattle.largest.specs.declared.nofit.NoFit.TheVariants.{Plans}
use Rattle.largest.specs.Finding.{FitAsked, FindsLargest, kept_result}
use Rattle.largest.proofs.Shallow.{none_fits_means}
use Rattle.largest.proofs.Verdicts.{finds_one}
use Rattle.largest.proofs.finding.find_largest.Goals as goal

pub returns-in_err-compare_plans : goal.returns-in_err-compare_plans
returns-in_err-compare_plans g c =
    let a = g.A.Plan.meaning c.args.first.now.plan in
    let b = g.B.Plan.meaning c.args.second.now.plan in
    let says = g.R.Rule.says c.args.rule.now in
    let p = err_from_is_err_and c.from_residual.result c.from_residual.ensures.1 in
    let refused : FindsLargest a b says (Err (Plans c.in_err-compare_plans.field-0.0)) =
    plans_refuse a b (λ e. Err (Plans e)) (FitAsked a b says) c.in_err-compare_plans.field-0.0 c.in_err-compare_plans.ensures in
    record {
      finds = subst (λ (r : Result PairTable NoFit). FindsLargest a b says (kept_result r)) (sym (p.1 ∙ ap Err p.2)) refused;
      only = finds_one a b says;
      shallow = none_fits_means a b says (g.met.A.Plan.lawful c.args.first.now.plan) (g.met.B.Plan.lawful c.args.second.now.plan);
    }

pub returns : goal.returns
returns g c =
    let a = g.A.Plan.meaning c.args.first.now.plan in
    let b = g.B.Plan.meaning c.args.second.now.plan in
    let says = g.R.Rule.says c.args.rule.now in
    let plans = c.in_ok-compare_plans.ensures in
    let r = kept_result c.refine.result in
    let asked : FitAsked a b says r =
    subst (λ m. FitAsked m b says r) (ap g.A.Plan.meaning c.plan.ensures)
    (subst (λ n. FitAsked (g.A.Plan.meaning c.plan.result.now) n says r) (ap g.B.Plan.meaning c.plan-2.ensures) c.refine.ensures) in
    record {
      finds = plans_pass a b (λ e. Err (Plans e)) (FitAsked a b says) r plans.first_sound plans.second_sound plans.as_many_channels asked;
      only = finds_one a b says;
      shallow = none_fits_means a b says (g.met.A.Plan.lawful c.args.first.now.plan) (g.met.B.Plan.lawful c.args.second.now.plan);
    }
