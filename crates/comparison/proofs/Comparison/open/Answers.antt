use Rattle.comparison.specs.Settings.{Setting}
use Rattle.comparison.proofs.Changes.{marked_none}
use Rattle.comparison.proofs.Comparison.open.Goals as goal

pub returns-clause-consistent : goal.returns-clause-consistent
returns-clause-consistent g c =
    let setting : Setting = record {
      first = g.A.Plan.meaning c.args.first.plan;
      second = g.B.Plan.meaning c.args.second.plan;
      first_finding = c.args.first.finding;
      second_finding = c.args.second.finding;
      says = g.R.Rule.says c.args.rule;
    } in
    record {
      first_found = c.requires.first;
      second_found = c.requires.second;
      only_marked = marked_none setting _ c.empty-pairs.ensures;
    }
