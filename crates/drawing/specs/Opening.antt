-- What the parts of opening a drawing file give, each from the bytes of the file.
use Rattle.std.specs.Prelude.{◌≡◌, ℕ, ◌+◌, ◌-◌, ◌<◌, ◌≤◌, true, cond, ◌&&◌, List, length, ◌==◌, nat_lt, slice_index, slice_index_or}
use Rattle.layout.specs.Questions.{HeaderPasses, RowsPass, StepsPass}
use Rattle.layout.specs.Refusals.{refusal_numbers}
use Rattle.layout.specs.declared.refusal.FileRefusal.{FileRefusal}
use Rattle.layout.specs.declared.refusal.FileRefusal.TheVariants.{Step}
use Rattle.layout.specs.Lowest.{Lowest}
use Rattle.drawing.specs.declared.drawing.open.Header.{Header}
use Rattle.drawing.specs.declared.drawing.open.StepRow.{StepRow}
use Rattle.drawing.specs.declared.state.State.{State}
use Rattle.drawing.specs.declared.steps.StepTable.{StepTable}
use Rattle.drawing.specs.Layout.{states_in, steps_in, channels_in, start_in, state_rows_in, step_rows_in, state_place, mark_at, code_at, proper_at, from_in, to_in, astray_in, steps_from, drawing_questions, drawing_answer}
use Rattle.drawing.specs.Stored.{blank, span_of, steps_of}

-- the header of a file that passes the first five questions
pub record HeaderRead (b : List ℕ) (h : Header) : Type 0 where
  pub passes : HeaderPasses (drawing_questions b)
  pub few_states : h.states ≤ 128
  pub few_steps : h.steps ≤ 1024
  pub few_channels : h.channels ≤ 4
  pub state_rows_inside : h.state_rows ≤ 40000
  pub step_rows_inside : h.step_rows ≤ 40000
  pub states_read : h.states ≡ states_in b
  pub steps_read : h.steps ≡ steps_in b
  pub channels_read : h.channels ≡ channels_in b
  pub start_read : h.start ≡ start_in b
  pub state_rows_read : h.state_rows ≡ state_rows_in b
  pub step_rows_read : h.step_rows ≡ step_rows_in b

-- the refusal is the one that the questions give
abbrev pub Refused : List ℕ → FileRefusal → Type 0
Refused b refused = refusal_numbers refused ≡ drawing_answer b

-- the codes of the state row at a place, on c channels, and 0 on the others
pub record CodesRead (b : List ℕ) (at c : ℕ) (codes : List ℕ) : Type 0 where
  pub four : length codes ≡ 4
  pub each_code : (k : ℕ) → slice_index codes k ≡ cond (nat_lt k c) (code_at b at k) 0

-- the proper state row at a place
pub record StateRead (b : List ℕ) (at c : ℕ) (state : State) : Type 0 where
  pub is_proper : proper_at b at c ≡ true
  pub mark_read : state.marked ≡ (mark_at b at == 1)
  pub codes_read : CodesRead b at c state.codes

-- the first i state rows are kept, and nothing else is; all of them are proper
pub record StatesRead (b : List ℕ) (i : ℕ) (rows : List State) : Type 0 where
  pub long : length rows ≡ 128
  pub each_mark : (s : ℕ) → (slice_index_or rows s blank).marked ≡ (nat_lt s i && mark_at b (state_place b s) == 1)
  pub each_code : (s k : ℕ) → slice_index (slice_index_or rows s blank).codes k ≡ cond (nat_lt s i && nat_lt k (channels_in b)) (code_at b (state_place b s) k) 0
  pub proper_rows : RowsPass (drawing_questions b) i

-- step row i
pub record StepRowRead (b : List ℕ) (i : ℕ) (row : StepRow) : Type 0 where
  pub from_read : row.from ≡ from_in b i
  pub to_read : row.to ≡ to_in b i

-- the lowest step row that leads astray is the one refused
abbrev pub LowestAstray : List ℕ → FileRefusal → Type 0
LowestAstray b refused = (i : ℕ) × (refused ≡ Step i) × Lowest (astray_in b) (steps_in b) i

-- the first i step rows are kept; none of them leads astray
pub record StepsRead (b : List ℕ) (i : ℕ) (t : StepTable) : Type 0 where
  pub long_spans : length t.spans ≡ 128
  pub long_targets : length t.targets ≡ 1024
  pub right_steps : StepsPass (drawing_questions b) i
  -- a state's targets stand among the first i
  pub ends_by : (s : ℕ) → (span_of t s).first + (span_of t s).count ≤ i
  pub listed : (s : ℕ) → steps_of t s ≡ steps_from b s i
  -- the states that have steps are those up to the last row's, and the last row's state has its targets last
  pub no_later : (s : ℕ) → 0 < (span_of t s).count → s ≤ from_in b (i - 1)
  pub open_end : (s : ℕ) → 0 < (span_of t s).count → s ≡ from_in b (i - 1) → (span_of t s).first + (span_of t s).count ≡ i
