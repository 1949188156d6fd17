-- What the parts of opening a table file give, each from the bytes of the file.
use Rattle.std.specs.Prelude.{◌≡◌, ℕ, ◌<◌, ◌≤◌, Bool, true, not, List, slice_index_or}
use Rattle.layout.specs.Lowest.{Lowest}
use Rattle.layout.specs.Questions.{HeaderPasses, RowsPass}
use Rattle.layout.specs.Refusals.{refusal_numbers}
use Rattle.layout.specs.declared.refusal.FileRefusal.{FileRefusal}
use Rattle.layout.specs.declared.refusal.FileRefusal.TheVariants.{Step}
use Rattle.table.specs.declared.row.Row.{Row}
use Rattle.table.specs.declared.table.open.Header.{Header}
use Rattle.table.specs.Layout.{states_in, start_in, rows_in, table_questions, table_answer}
use Rattle.table.specs.Rows.{Kept, blank, leads_within}

-- the header of a file that passes the first five questions
pub record HeaderRead (b : List ℕ) (h : Header) : Type 0 where
  pub passes : HeaderPasses (table_questions b)
  pub few : h.states ≤ 128
  pub states_read : h.states ≡ states_in b
  pub start_read : h.start ≡ start_in b
  pub rows_read : h.rows ≡ rows_in b

-- the refusal is the one that the questions give
abbrev pub Refused : List ℕ → FileRefusal → Type 0
Refused b refused = refusal_numbers refused ≡ table_answer b

-- the rows of a file, all of them proper
pub record RowsRead (b : List ℕ) (k : ℕ) (rows : List Row) : Type 0 where
  pub kept : Kept b k rows
  pub proper_rows : RowsPass (table_questions b) k

-- the row of this state leads to a state that is not there
abbrev pub astray_in : List Row → ℕ → ℕ → Bool
astray_in rows n s = not (leads_within n (slice_index_or rows s blank).steps)

-- the lowest row that leads astray is the one refused
abbrev pub LowestAstray : List Row → ℕ → FileRefusal → Type 0
LowestAstray rows n refused = (i : ℕ) × (refused ≡ Step i) × Lowest (astray_in rows n) n i

-- each of the first k rows leads to states below n
abbrev pub LeadWithin : List Row → ℕ → ℕ → Type 0
LeadWithin rows n k = (s : ℕ) → s < k → leads_within n (slice_index_or rows s blank).steps ≡ true
