-- Question 7, put to the rows that were kept.
use Rattle.std.proofs.Common.{◌≡◌, ℕ, ◌+◌, ◌<◌, true, cond, not, ◌||◌, List, get_or, sym, ap, ◌∙◌, lt_trans}
use Rattle.std.proofs.lemmas.Bool.{and_parts, not-false, lt-ltb}
use Rattle.layout.specs.Bytes.{byte_at}
use Rattle.layout.specs.Questions.{HeaderPasses, Passes}
use Rattle.layout.specs.Refusals.{refusal_numbers}
use Rattle.layout.specs.declared.refusal.FileRefusal.{FileRefusal}
use Rattle.layout.proofs.Asked.{refused_step}
use Rattle.table.specs.declared.row.Row.{Row}
use Rattle.table.specs.Layout.{flag_set, states_in, row_place, proper_at, table_questions}
use Rattle.table.specs.Rows.{blank, kept_row, leads_within}
use Rattle.table.specs.Opening.{RowsRead, Refused, LowestAstray, LeadWithin, astray_in}
use Rattle.table.proofs.Meant.{astray_of}

module _ (b : List ℕ) (rows : List Row) (read : RowsRead b (states_in b) rows) where
  -- a second target comes only with a first
  with_first : (s : ℕ) → s < states_in b → (flag_set (byte_at b (row_place b s)) 1 || not (flag_set (byte_at b (row_place b s)) 2)) ≡ true
  with_first s low =
      let whole = not-false (proper_at b (row_place b s)) (read.proper_rows s low) in
      (and_parts _ _ (and_parts _ _ (and_parts _ _ (and_parts _ _ (and_parts _ _ whole).0).0).0).0).1

  -- the file's row leads astray exactly where the kept row does
  astray_kept : (s : ℕ) → s < states_in b → (table_questions b).astray s ≡ astray_in rows (states_in b) s
  astray_kept s low =
      let at = row_place b s in
      let kept_here : get_or rows s blank ≡ kept_row b at =
      read.kept.each s ∙ ap (λ t. cond t (kept_row b at) blank) (lt-ltb s (states_in b) low) in
      astray_of (flag_set (byte_at b at) 1) (flag_set (byte_at b at) 2) (states_in b) (byte_at b (at + 1)) (byte_at b (at + 2)) (with_first s low)
      ∙ ap (λ x. not (leads_within (states_in b) x.steps)) (sym kept_here)

  module _ (header : HeaderPasses (table_questions b)) where
    -- the first row that leads astray
    pub step_refused : (refused : FileRefusal) → LowestAstray rows (states_in b) refused → Refused b refused
    step_refused refused (i, is, low) =
        ap refusal_numbers is
        ∙ sym
        (refused_step (table_questions b) header read.proper_rows i
        (record {
          below = low.below;
          passes = astray_kept i low.below ∙ low.passes;
          none_lower = λ k h. astray_kept k (lt_trans h low.below) ∙ low.none_lower k h;
        }))

    -- no row does
    pub all_pass : LeadWithin rows (states_in b) (states_in b) → Passes (table_questions b)
    all_pass within = record {
      header = header;
      rows_pass = read.proper_rows;
      steps_pass = λ s low. astray_kept s low ∙ ap not (within s low);
    }
