use Rattle.std.proofs.Common.{Err, sym, ap, ◌∙◌, subst, inl, inr, rules}
use Rattle.std.proofs.lemmas.Result.{err_from_is_err_and}
use Rattle.pairs.specs.Pairs.{Has, kept_pairs}
use Rattle.fitting.specs.Bisimilarity.{AllAcceptable}
use Rattle.fitting.specs.Judging.{PairsAsked}
use Rattle.fitting.proofs.Verdicts.{uncovered_not}
use Rattle.fitting.proofs.judging.judge_pairs.Goals as goal

pub returns-in_err-check_covered : goal.returns-in_err-check_covered
returns-in_err-check_covered g c =
    let a = g.A.Plan.meaning c.args.compared.now.first.now in
    let b = g.B.Plan.meaning c.args.compared.now.second.now in
    let says = g.R.Rule.says c.args.compared.now.rule.now in
    let pairs = kept_pairs c.args.pairs.now in
    let names = c.in_err-check_covered.ensures in
    let starts : Has pairs a.start b.start = search rules in
    let acceptable : AllAcceptable a b says pairs = search rules in
    let p = err_from_is_err_and c.from_residual-in_err-check_covered.result c.from_residual-in_err-check_covered.ensures.1 in
    subst (PairsAsked a b says pairs) (sym (p.1 ∙ ap Err p.2))
    (inr (starts, inr (acceptable, inl (uncovered_not a b pairs (Err c.in_err-check_covered.field-0.0) names, names))))
