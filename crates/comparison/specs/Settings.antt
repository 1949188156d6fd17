-- What a comparison compares, and what is always true of it.
use Rattle.std.specs.Prelude.{◌≡◌, ℕ, true}
use Rattle.plan.specs.Model.{Model}
use Rattle.plan.specs.Runs.{Marked}
use Rattle.vet.specs.declared.finding.Finding.{Finding}
use Rattle.vet.specs.Findings.{Finds}
use Rattle.rules.specs.Rules.{Says}
use Rattle.pairs.specs.Pairs.{Pairs, kept_pairs}
use Rattle.comparison.specs.declared.Comparison.{Comparison}

-- The two plans, their findings and the rule. They stay as the comparison took them.
pub record Setting : Type 0 where
  pub first : Model
  pub second : Model
  pub first_finding : Finding
  pub second_finding : Finding
  pub says : Says

-- the setting of a comparison, by what its plans and its rule mean
abbrev pub setting_of : {A B R : Type 0} → (A → Model) → (B → Model) → (R → Says) → Comparison A B R → Setting
setting_of first-meaning second-meaning says c = record {
  first = first-meaning c.first.plan;
  second = second-meaning c.second.plan;
  first_finding = c.first.finding;
  second_finding = c.second.finding;
  says = says c.rule;
}

-- the pairs that stand
abbrev pub standing : {A B R : Type 0} → Comparison A B R → Pairs
standing c = kept_pairs c.pairs

-- only marked pairs stand
abbrev pub OnlyMarked : Setting → Pairs → Type 0
OnlyMarked setting pairs = (s t : ℕ) → pairs s t ≡ true → Marked setting.first s × Marked setting.second t

-- What every call keeps and may rely on: the findings are true of the plans, and only marked pairs stand.
pub record Consistent (setting : Setting) (pairs : Pairs) : Type 0 where
  pub first_found : Finds setting.first setting.first_finding
  pub second_found : Finds setting.second setting.second_finding
  pub only_marked : OnlyMarked setting pairs

-- plans, findings and rule are the same in both
pub record SameSetting {A B R : Type 0} (c d : Comparison A B R) : Type 0 where
  pub same_first : d.first ≡ c.first
  pub same_second : d.second ≡ c.second
  pub same_rule : d.rule ≡ c.rule
