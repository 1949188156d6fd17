use Rattle.std.proofs.Common.{refl, rules, tests}
use Rattle.std.proofs.lemmas.List.Recursion.{or_is}
use Rattle.rules.specs.Rules.{names, listed_says}
use Rattle.rules.proofs.listed.ListedRule.accepts.Goals as goal

pub returns : goal.returns
returns c =
    or_is (λ xs. listed_says xs c.args.channel c.args.first c.args.second) (λ x. names x c.args.channel c.args.first c.args.second) refl (λ _ _. refl)
    c.args.self.now.records.now (record { channel = 0; first = 0; second = 0 }) _ (search (rules, tests)) (search (rules, tests))
