use Rattle.comparison.specs.Settings.{Setting, setting_of}
use Rattle.comparison.proofs.Changes.{not_refused, marked_added, marked_struck}
use Rattle.comparison.proofs.Comparison.set.Goals as goal

pub returns-then-stands-clause-consistent : goal.returns-then-stands-clause-consistent
returns-then-stands-clause-consistent g c =
    let setting : Setting = setting_of g.A.Plan.meaning g.B.Plan.meaning g.R.Rule.says c.args.self.now in
    record {
      first_found = c.requires.first_found;
      second_found = c.requires.second_found;
      only_marked = marked_added setting _ _ _ _ (not_refused _ _ c.in_ok-check_pair.ensures) c.put.ensures c.requires.only_marked;
    }

pub returns-else-stands-clause-consistent : goal.returns-else-stands-clause-consistent
returns-else-stands-clause-consistent g c =
    let setting : Setting = setting_of g.A.Plan.meaning g.B.Plan.meaning g.R.Rule.says c.args.self.now in
    record {
      first_found = c.requires.first_found;
      second_found = c.requires.second_found;
      only_marked = marked_struck setting _ _ _ _ c.strike.ensures c.requires.only_marked;
    }
