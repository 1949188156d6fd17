use Rattle.std.proofs.Common.{ℕ, List, sym, ap, ◌∙◌, subst}
use Rattle.std.proofs.lemmas.Result.{err_from_is_err_and}
use Rattle.plan.specs.Model.{Lawful}
use Rattle.plan.specs.Answers.{success}
use Rattle.layout.specs.Questions.{Passes}
use Rattle.layout.proofs.Asked.{accepted}
use Rattle.table.specs.Layout.{states_in, table_questions}
use Rattle.table.specs.Opening.{HeaderRead, RowsRead, LowestAstray, LeadWithin}
use Rattle.table.specs.declared.row.Row.{Row}
use Rattle.table.specs.declared.table.open.Header.{Header}
use Rattle.table.proofs.Meant.{stored_is, table_lawful}
use Rattle.table.proofs.Targets.{step_refused, all_pass}
use Rattle.table.proofs.table.Table.open.Goals as goal

pub returns-in_err-check_targets : goal.returns-in_err-check_targets
returns-in_err-check_targets c =
    let b = c.args.bytes.now in
    let header = c.in_ok-header.ensures in
    let rows = c.in_ok-rows.rows in
    let refused = c.in_err-check_targets.field-0.0 in
    let p = err_from_is_err_and c.from_residual-in_err-check_targets.result c.from_residual-in_err-check_targets.ensures.1 in
    let low = subst (λ n. LowestAstray rows n refused) header.states_read c.in_err-check_targets.ensures in
    rw (p.1, p.2) (record { numbers = step_refused b rows c.in_ok-rows.ensures header.passes refused low; plan = tt })

-- every question is answered yes
passed :
    (b : List ℕ) (h : Header) (rows : List Row) → HeaderRead b h → RowsRead b (states_in b) rows
    → LeadWithin rows h.states h.states → Passes (table_questions b)
passed b h rows header read within =
    all_pass b rows read header.passes (subst (λ n. LeadWithin rows n n) header.states_read within)

pub invariant_of-result : goal.invariant_of-result
invariant_of-result c =
    let b = c.args.bytes.now in
    let header = c.in_ok-header.ensures in
    let read = c.in_ok-rows.ensures in
    let is = stored_is b _ _ c.in_ok-rows.rows header.states_read header.start_read read.kept in
    record { lawful = ∣ subst Lawful (sym is) (table_lawful b (passed b _ _ header read c.in_ok-check_targets.ensures)) ∣₁ }

pub returns : goal.returns
returns c =
    let b = c.args.bytes.now in
    let header = c.in_ok-header.ensures in
    let read = c.in_ok-rows.ensures in
    record {
      numbers =
          ap (λ n. success n 1) header.states_read
          ∙ sym (accepted (table_questions b) (passed b _ _ header read c.in_ok-check_targets.ensures));
      plan = stored_is b _ _ c.in_ok-rows.rows header.states_read header.start_read read.kept;
    }
