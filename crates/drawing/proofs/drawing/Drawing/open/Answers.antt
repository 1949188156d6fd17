use Rattle.std.proofs.Common.{ℕ, List, sym, ap, ◌∙◌, subst, arith}
use Rattle.std.proofs.lemmas.Result.{err_from_is_err_and}
use Rattle.plan.specs.Model.{Lawful}
use Rattle.plan.specs.Answers.{success}
use Rattle.layout.specs.Questions.{Passes}
use Rattle.layout.specs.Refusals.{refusal_numbers}
use Rattle.layout.proofs.Asked.{accepted, refused_step}
use Rattle.drawing.specs.Layout.{states_in, steps_in, drawing_questions}
use Rattle.drawing.specs.Opening.{HeaderRead, StatesRead, StepsRead, LowestAstray}
use Rattle.drawing.specs.declared.drawing.open.Header.{Header}
use Rattle.drawing.specs.declared.state.State.{State}
use Rattle.drawing.specs.declared.steps.StepTable.{StepTable}
use Rattle.drawing.proofs.Meant.{stored_is, drawing_lawful}
use Rattle.drawing.proofs.drawing.Drawing.open.Goals as goal

-- every question is answered yes
passed :
    (b : List ℕ) (h : Header) (rows : List State) (steps : StepTable) → HeaderRead b h → StatesRead b (states_in b) rows
    → StepsRead b (steps_in b) steps → Passes (drawing_questions b)
passed b h rows steps header states read = record { header = header.passes; rows_pass = states.proper_rows; steps_pass = read.right_steps }

pub returns-in_err-steps : goal.returns-in_err-steps
returns-in_err-steps c =
    let b = c.args.bytes.now in
    let file = c.in_ok-file.file in
    let p = err_from_is_err_and c.from_residual-in_err-steps.result c.from_residual-in_err-steps.ensures.1 in
    let header = subst (λ x. HeaderRead x file.header) c.in_ok-file.ensures file.read in
    let states = subst (λ x. StatesRead x (states_in x) c.in_ok-rows.rows) c.in_ok-file.ensures c.in_ok-rows.ensures in
    let low = subst (λ x. LowestAstray x c.in_err-steps.field-0.0) c.in_ok-file.ensures c.in_err-steps.ensures in
    rw (p.1, p.2)
    (record {
      numbers = ap refusal_numbers low.1 ∙ sym (refused_step (drawing_questions b) header.passes states.proper_rows low.0 low.2);
      plan = tt;
    })

pub invariant_of-result : goal.invariant_of-result
invariant_of-result c =
    let b = c.args.bytes.now in
    let file = c.in_ok-file.file in
    let header = subst (λ x. HeaderRead x file.header) c.in_ok-file.ensures file.read in
    let states = subst (λ x. StatesRead x (states_in x) c.in_ok-rows.rows) c.in_ok-file.ensures c.in_ok-rows.ensures in
    let read = subst (λ x. StepsRead x (steps_in x) c.in_ok-steps.steps) c.in_ok-file.ensures c.in_ok-steps.ensures in
    let is = stored_is b _ _ _ c.in_ok-rows.rows c.in_ok-steps.steps header.states_read header.start_read header.channels_read states read in
    record {
      lawful = ∣ subst Lawful (sym is) (drawing_lawful b (passed b _ _ _ header states read)) ∣₁;
      spans_fit = λ s. omega (arith, read.ends_by s, read.long_targets, header.few_steps, header.steps_read);
    }

pub returns : goal.returns
returns c =
    let b = c.args.bytes.now in
    let file = c.in_ok-file.file in
    let header = subst (λ x. HeaderRead x file.header) c.in_ok-file.ensures file.read in
    let states = subst (λ x. StatesRead x (states_in x) c.in_ok-rows.rows) c.in_ok-file.ensures c.in_ok-rows.ensures in
    let read = subst (λ x. StepsRead x (steps_in x) c.in_ok-steps.steps) c.in_ok-file.ensures c.in_ok-steps.ensures in
    let is = stored_is b _ _ _ c.in_ok-rows.rows c.in_ok-steps.steps header.states_read header.start_read header.channels_read states read in
    record {
      numbers =
          ap (λ m. success m.states m.channels) is
          ∙ sym (accepted (drawing_questions b) (passed b _ _ _ header states read));
      plan = is;
    }
