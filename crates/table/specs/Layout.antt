-- The layout of a table file: from its bytes to the plan that it describes, and to what it says to each question.
-- Header, 8 bytes: the sign 50 4B, then words: states, start, offset of the rows.
-- A row, 8 bytes: flags, first target, second target, 0, and a long for the code.
use Rattle.std.specs.Prelude.{ℕ, ◌+◌, ◌*◌, ◌/◌, ◌%◌, ◌^◌, Bool, cond, not, ◌&&◌, ◌||◌, List, [], ◌∷◌, length, ◌==◌, nat_le, nat_lt}
use Rattle.plan.specs.declared.answer.Answer.{Answer}
use Rattle.plan.specs.Model.{Model}
use Rattle.layout.specs.Bytes.{byte_at, word_at, long_at}
use Rattle.layout.specs.Questions.{Questions, answer_to, fits_length, begins_with}

-- the header
abbrev pub states_in : List ℕ → ℕ
states_in b = word_at b 2

abbrev pub start_in : List ℕ → ℕ
start_in b = word_at b 4

abbrev pub rows_in : List ℕ → ℕ
rows_in b = word_at b 6

-- where the row of a state begins
abbrev pub row_place : List ℕ → ℕ → ℕ
row_place b s = rows_in b + 8 * s

-- bit k of a row's flags. Bit 0 is the mark, bit 1 says that there is a first target, bit 2 a second.
abbrev pub flag_set : ℕ → ℕ → Bool
flag_set flags k = flags / 2 ^ k % 2 == 1

-- A row, by its flags, its two targets, its fourth byte and its code, is proper: flag bits 3 to 7 are clear; there is a
-- second target only with a first; an unused target and the fourth byte are 0; the code is 0 if the state is unmarked.
abbrev pub proper : ℕ → ℕ → ℕ → ℕ → ℕ → Bool
proper flags first second fourth code =
    nat_le flags 7
    && (flag_set flags 1 || not (flag_set flags 2))
    && (flag_set flags 1 || first == 0)
    && (flag_set flags 2 || second == 0)
    && fourth == 0
    && (flag_set flags 0 || code == 0)

-- the row that begins at this place is proper
abbrev pub proper_at : List ℕ → ℕ → Bool
proper_at b at = proper (byte_at b at) (byte_at b (at + 1)) (byte_at b (at + 2)) (byte_at b (at + 3)) (long_at b (at + 4))

-- a target that is used is no state below n
abbrev pub leads_astray : ℕ → ℕ → ℕ → ℕ → Bool
leads_astray n flags first second = (flag_set flags 1 && nat_le n first) || (flag_set flags 2 && nat_le n second)

-- The steps of a row: the first target, then the second if it differs.
abbrev pub steps_by : ℕ → ℕ → ℕ → List ℕ
steps_by flags first second =
    cond (flag_set flags 1) (cond (flag_set flags 2 && not (first == second)) (first ∷ second ∷ []) (first ∷ [])) []

abbrev pub steps_at : List ℕ → ℕ → List ℕ
steps_at b at = steps_by (byte_at b at) (byte_at b (at + 1)) (byte_at b (at + 2))

-- The plan that a table file describes. It has one channel.
abbrev pub table_plan : List ℕ → Model
table_plan b = record {
  states = states_in b;
  start = start_in b;
  channels = 1;
  mark = λ s. nat_lt s (states_in b) && flag_set (byte_at b (row_place b s)) 0;
  code = λ s k. cond (nat_lt s (states_in b) && k == 0) (long_at b (row_place b s + 4)) 0;
  steps = λ s. cond (nat_lt s (states_in b)) (steps_at b (row_place b s)) [];
}

-- what a table file says to each question
abbrev pub table_questions : List ℕ → Questions
table_questions b = record {
  length_fits = fits_length 8 b;
  has_sign = begins_with 0x50 0x4B b;
  counts_fit = nat_le 1 (states_in b) && nat_le (states_in b) 128;
  start_exists = nat_lt (start_in b) (states_in b);
  parts_fit = nat_le 8 (rows_in b) && nat_le (rows_in b + 8 * states_in b) (length b);
  rows = states_in b;
  improper = λ s. not (proper_at b (row_place b s));
  step_rows = states_in b;
  astray = λ s. leads_astray (states_in b) (byte_at b (row_place b s)) (byte_at b (row_place b s + 1)) (byte_at b (row_place b s + 2));
  states = states_in b;
  channels = 1;
}

-- the five numbers that opening a table file answers
abbrev pub table_answer : List ℕ → Answer
table_answer b = answer_to (table_questions b)
