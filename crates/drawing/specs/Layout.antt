-- The layout of a drawing file: from its bytes to the plan that it describes, and to what it says to each question.
-- Header, 14 bytes: the sign 44 50, then words: states, steps, channels, start, offset of the state rows, offset of the step rows.
-- A state row: a word for the mark and a long for the code of each channel. A step row: two words, from and to.
use Rattle.std.specs.Prelude.{ℕ, zero, suc, ◌+◌, ◌-◌, ◌*◌, Bool, true, cond, not, ◌&&◌, ◌||◌, List, [], ◌∷◌, ◌++◌, length, ◌==◌, nat_le, nat_lt}
use Rattle.plan.specs.declared.answer.Answer.{Answer}
use Rattle.plan.specs.Model.{Model}
use Rattle.layout.specs.Bytes.{word_at, long_at}
use Rattle.layout.specs.Questions.{Questions, answer_to, fits_length, begins_with}

-- the header
abbrev pub states_in : List ℕ → ℕ
states_in b = word_at b 2

abbrev pub steps_in : List ℕ → ℕ
steps_in b = word_at b 4

abbrev pub channels_in : List ℕ → ℕ
channels_in b = word_at b 6

abbrev pub start_in : List ℕ → ℕ
start_in b = word_at b 8

abbrev pub state_rows_in : List ℕ → ℕ
state_rows_in b = word_at b 10

abbrev pub step_rows_in : List ℕ → ℕ
step_rows_in b = word_at b 12

-- where the row of a state begins
abbrev pub state_place : List ℕ → ℕ → ℕ
state_place b s = state_rows_in b + s * (2 + 4 * channels_in b)

-- a state row that begins at a place: its mark, and its code on channel k
abbrev pub mark_at : List ℕ → ℕ → ℕ
mark_at b at = word_at b at

abbrev pub code_at : List ℕ → ℕ → ℕ → ℕ
code_at b at k = long_at b (at + 2 + 4 * k)

-- its codes on the first k channels are all 0
abbrev pub silent_at : List ℕ → ℕ → ℕ → Bool
silent_at b at zero = true
silent_at b at (suc k) = code_at b at k == 0 && silent_at b at k

-- a state row with c codes is proper: the mark is 0 or 1, and all codes are 0 if the state is unmarked
abbrev pub proper_at : List ℕ → ℕ → ℕ → Bool
proper_at b at c = nat_le (mark_at b at) 1 && (mark_at b at == 1 || silent_at b at c)

-- where a step row begins, and the two states that it joins
abbrev pub step_place : List ℕ → ℕ → ℕ
step_place b i = step_rows_in b + 4 * i

abbrev pub from_in : List ℕ → ℕ → ℕ
from_in b i = word_at b (step_place b i)

abbrev pub to_in : List ℕ → ℕ → ℕ
to_in b i = word_at b (step_place b i + 2)

-- the step from f to t comes before the one from g to u: by from, then to
abbrev pub before : ℕ → ℕ → ℕ → ℕ → Bool
before f t g u = nat_lt f g || (f == g && nat_lt t u)

-- a step row leads from or to what is no state, or does not come after the row before it
abbrev pub astray_in : List ℕ → ℕ → Bool
astray_in b i =
    nat_le (states_in b) (from_in b i)
    || nat_le (states_in b) (to_in b i)
    || (nat_lt 0 i && not (before (from_in b (i - 1)) (to_in b (i - 1)) (from_in b i) (to_in b i)))

-- where the first i step rows lead from a state, in their order
abbrev pub steps_from : List ℕ → ℕ → ℕ → List ℕ
steps_from b s zero = []
steps_from b s (suc i) = steps_from b s i ++ cond (from_in b i == s) (to_in b i ∷ []) []

-- The plan that a drawing file describes.
abbrev pub drawing_plan : List ℕ → Model
drawing_plan b = record {
  states = states_in b;
  start = start_in b;
  channels = channels_in b;
  mark = λ s. nat_lt s (states_in b) && (mark_at b (state_place b s) == 1);
  code = λ s k. cond (nat_lt s (states_in b) && nat_lt k (channels_in b)) (code_at b (state_place b s) k) 0;
  steps = λ s. steps_from b s (steps_in b);
}

-- what a drawing file says to each question
abbrev pub drawing_questions : List ℕ → Questions
drawing_questions b = record {
  length_fits = fits_length 14 b;
  has_sign = begins_with 0x44 0x50 b;
  counts_fit = nat_le 1 (states_in b) && nat_le (states_in b) 128 && nat_le (steps_in b) 1024 && nat_le (channels_in b) 4;
  start_exists = nat_lt (start_in b) (states_in b);
  parts_fit =
      nat_le 14 (state_rows_in b)
      && nat_le (state_rows_in b + states_in b * (2 + 4 * channels_in b)) (step_rows_in b)
      && nat_le (step_rows_in b + 4 * steps_in b) (length b);
  rows = states_in b;
  improper = λ s. not (proper_at b (state_place b s) (channels_in b));
  step_rows = steps_in b;
  astray = astray_in b;
  states = states_in b;
  channels = channels_in b;
}

-- the five numbers that opening a drawing file answers
abbrev pub drawing_answer : List ℕ → Answer
drawing_answer b = answer_to (drawing_questions b)
