use Rattle.std.proofs.Common.{rules, sym, ap, ◌∙◌}
use Rattle.plan.specs.Answers.{success}
use Rattle.comparison.specs.Settings.{Setting, setting_of, standing}
use Rattle.comparison.proofs.Loads.{load_accepted, load_refused, pairs_loaded, pairs_kept, rows_fit_table, rows_marked}
use Rattle.comparison.proofs.Comparison.load.Goals as goal

pub table_of-self-requires : goal.table_of-self-requires
table_of-self-requires g c =
    let here = c.args.self.now in
    let setting : Setting = setting_of g.A.Plan.meaning g.B.Plan.meaning g.R.Rule.says here in
    rows_fit_table setting c.in_ok-file.file.bytes.now (g.met.A.Plan.lawful here.first.plan).few (g.met.B.Plan.lawful here.second.plan).few _ c.in_ok-check_rows.ensures

pub returns-in_err-check_rows-clause-answer : goal.returns-in_err-check_rows-clause-answer
returns-in_err-check_rows-clause-answer g c =
    let setting : Setting = setting_of g.A.Plan.meaning g.B.Plan.meaning g.R.Rule.says c.args.self.now in
    let refused = load_refused setting c.args.bytes.now c.in_ok-file.file c.in_ok-file.ensures (standing c.args.self.now) c.in_err-check_rows.field-0.0 c.in_err-check_rows.ensures in
    rw refused (search rules)

pub returns-in_err-check_rows-clause-pairs : goal.returns-in_err-check_rows-clause-pairs
returns-in_err-check_rows-clause-pairs g c =
    let setting : Setting = setting_of g.A.Plan.meaning g.B.Plan.meaning g.R.Rule.says c.args.self.now in
    pairs_kept setting c.args.bytes.now c.in_ok-file.file c.in_ok-file.ensures (standing c.args.self.now) c.in_err-check_rows.field-0.0 c.in_err-check_rows.ensures

pub returns-clause-answer : goal.returns-clause-answer
returns-clause-answer g c =
    let setting : Setting = setting_of g.A.Plan.meaning g.B.Plan.meaning g.R.Rule.says c.args.self.now in
    ap (λ n. success n 0) c.count.ensures
    ∙ sym (load_accepted setting c.args.bytes.now c.in_ok-file.file c.in_ok-file.ensures (standing c.args.self.now) c.in_ok-check_rows.ensures)

pub returns-clause-pairs : goal.returns-clause-pairs
returns-clause-pairs g c =
    let setting : Setting = setting_of g.A.Plan.meaning g.B.Plan.meaning g.R.Rule.says c.args.self.now in
    c.table_of-self.ensures
    ∙ pairs_loaded setting c.args.bytes.now c.in_ok-file.file c.in_ok-file.ensures (standing c.args.self.now) c.in_ok-check_rows.ensures

pub returns-clause-consistent : goal.returns-clause-consistent
returns-clause-consistent g c =
    let setting : Setting = setting_of g.A.Plan.meaning g.B.Plan.meaning g.R.Rule.says c.args.self.now in
    record {
      first_found = c.requires.first_found;
      second_found = c.requires.second_found;
      only_marked = rows_marked setting _ _ c.table_of-self.ensures c.in_ok-check_rows.ensures;
    }
