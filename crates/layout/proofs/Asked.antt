-- The answer to a file whose header passes: the lowest row at fault, or success.
use Rattle.std.proofs.Common.{◌≡◌, ℕ, Some, None, Err, Option, refl}
use Rattle.std.specs.Option.{ok_or}
use Rattle.plan.specs.Answers.{success, refusal_at}
use Rattle.layout.specs.Lowest.{Lowest, lowest}
use Rattle.layout.specs.declared.refusal.FileRefusal.{FileRefusal}
use Rattle.layout.specs.Questions.{Questions, HeaderPasses, RowsPass, Passes, answer_to}
use Rattle.layout.proofs.LowestOf.{lowest_none, lowest_is}

-- where a row is not given, the refusal is the one that stands for it
pub given_refusal : {X : Type 0} (given : Option X) (refused row : FileRefusal) → given ≡ None → Err refused ≡ ok_or given row → refused ≡ row
given_refusal given refused row none is = let e : Err refused ≡ Err row = rw none at is in cc

module _ (q : Questions) where
  module _ (passes : HeaderPasses q) where
    pub refused_row : (i : ℕ) → Lowest q.improper q.rows i → answer_to q ≡ refusal_at 6 i
    refused_row i low =
        let at : lowest q.improper q.rows ≡ Some i = lowest_is q.improper q.rows i low in
        rw (passes.length_passes, passes.sign_passes, passes.counts_pass, passes.start_passes, passes.parts_pass, at) refl

    module _ (proper : RowsPass q q.rows) where
      none_improper : lowest q.improper q.rows ≡ None
      none_improper = lowest_none q.improper q.rows proper

      pub refused_step : (i : ℕ) → Lowest q.astray q.step_rows i → answer_to q ≡ refusal_at 7 i
      refused_step i low =
          let at : lowest q.astray q.step_rows ≡ Some i = lowest_is q.astray q.step_rows i low in
          rw (passes.length_passes, passes.sign_passes, passes.counts_pass, passes.start_passes, passes.parts_pass, none_improper, at) refl

  pub accepted : Passes q → answer_to q ≡ success q.states q.channels
  accepted all =
      let h = all.header in
      let rows : lowest q.improper q.rows ≡ None = lowest_none q.improper q.rows all.rows_pass in
      let steps : lowest q.astray q.step_rows ≡ None = lowest_none q.astray q.step_rows all.steps_pass in
      rw (h.length_passes, h.sign_passes, h.counts_pass, h.start_passes, h.parts_pass, rows, steps) refl
