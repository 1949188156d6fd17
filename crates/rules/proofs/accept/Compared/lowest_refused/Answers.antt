use Rattle.std.proofs.Common.{◌≡◌, ℕ, ◌<◌, ◌≤◌, true, false, Option, Some, None, MatchOption, arith, rules, tests}
use Rattle.std.proofs.lemmas.Bool.{both_ways}
use Rattle.std.proofs.lemmas.Iterator.{first_from_Range}
use Rattle.plan.specs.Model.{Model}
use Rattle.rules.specs.Rules.{Says, LowestRefused}
use Rattle.rules.proofs.accept.Compared.lowest_refused.Goals as goal

-- the first of the channels with a no is the lowest one
lowest_is : (a b : Model) (says : Says) (s t from n : ℕ) (found : Option ℕ) → from ≡ 0 → n ≡ a.channels
    → MatchOption found ((k : ℕ) → from ≤ k → k < n → says k (a.code s k) (b.code t k) ≡ true)
    (λ k. (from ≤ k) × (k < n) × (says k (a.code s k) (b.code t k) ≡ false) × ((j : ℕ) → from ≤ j → j < k → says j (a.code s j) (b.code t j) ≡ true))
    → LowestRefused a b says s t found
lowest_is a b says s t from n None from_first all_channels h = λ k low. h k (omega (arith, from_first)) (omega (arith, all_channels))
lowest_is a b says s t from n (Some k) from_first all_channels h =
    ((omega (arith, h.1, all_channels), h.2), λ j below refused. both_ways _ refused.1 (h.3 j (omega (arith, from_first)) below))

pub returns : goal.returns
returns g c =
    let compared = c.args.self.now in
    lowest_is (g.A.Plan.meaning compared.first.now) (g.B.Plan.meaning compared.second.now) (g.R.Rule.says compared.rule.now) c.args.s c.args.t _ _ c.find.result (omega arith) c.channels.ensures
    (first_from_Range _ _ _ _ _ _ c.find.ensures.ran (λ x q k. search (rules, tests)) (λ x q k. search (rules, tests)))
