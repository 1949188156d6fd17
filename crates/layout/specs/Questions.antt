-- The seven questions that a plan file is asked as it is opened, and the answer.
use Rattle.std.specs.Prelude.{◌≡◌, ℕ, ◌<◌, Bool, true, false, cond, ◌&&◌, List, length, Some, None, Option, ◌==◌, nat_le}
use Rattle.plan.specs.declared.answer.Answer.{Answer}
use Rattle.plan.specs.Answers.{success, refusal, refusal_at}
use Rattle.layout.specs.Bytes.{byte_at}
use Rattle.layout.specs.Lowest.{lowest}

-- What a file says to each question. A file kind gives these from the bytes of the file.
pub record Questions : Type 0 where
  -- 1: does it reach its header's length, and not 40,001 bytes
  pub length_fits : Bool
  -- 2: does it begin with its sign
  pub has_sign : Bool
  -- 3: are its counts within range
  pub counts_fit : Bool
  -- 4: is the start below the number of states
  pub start_exists : Bool
  -- 5: do its parts follow the header, in order, without overlap and inside the file
  pub parts_fit : Bool
  -- 6: of `rows` state rows, which ones are improper
  pub rows : ℕ
  pub improper : ℕ → Bool
  -- 7: of `step_rows` rows that say where a step leads, which ones lead astray or are out of order
  pub step_rows : ℕ
  pub astray : ℕ → Bool
  -- what success tells: the numbers of states and of channels
  pub states : ℕ
  pub channels : ℕ

-- a file that says no is refused, one that says yes is asked on
abbrev pub asked : Bool → ℕ → Answer → Answer
asked yes-no number next = cond yes-no next (refusal number)

-- a row at fault is named, and a file without one is asked on
abbrev pub row_asked : Option ℕ → ℕ → Answer → Answer
row_asked None number next = next
row_asked (Some row) number next = refusal_at number row

-- The first no decides; of several rows at fault the lowest is named; question 6 is put to all rows before question 7.
abbrev pub answer_to : Questions → Answer
answer_to q =
    asked q.length_fits 1
    (asked q.has_sign 2
    (asked q.counts_fit 3
    (asked q.start_exists 4
    (asked q.parts_fit 5
    (row_asked (lowest q.improper q.rows) 6
    (row_asked (lowest q.astray q.step_rows) 7
    (success q.states q.channels)))))))

-- the length that question 1 asks for, with a header of h bytes
abbrev pub fits_length : ℕ → List ℕ → Bool
fits_length h b = nat_le h (length b) && nat_le (length b) 40000

-- the two bytes that question 2 asks for
abbrev pub begins_with : ℕ → ℕ → List ℕ → Bool
begins_with x y b = byte_at b 0 == x && byte_at b 1 == y

-- the first five questions are answered yes
pub record HeaderPasses (q : Questions) : Type 0 where
  pub length_passes : q.length_fits ≡ true
  pub sign_passes : q.has_sign ≡ true
  pub counts_pass : q.counts_fit ≡ true
  pub start_passes : q.start_exists ≡ true
  pub parts_pass : q.parts_fit ≡ true

-- question 6 is answered yes of the first k rows
abbrev pub RowsPass : Questions → ℕ → Type 0
RowsPass q k = (row : ℕ) → row < k → q.improper row ≡ false

-- question 7 is answered yes of the first k rows
abbrev pub StepsPass : Questions → ℕ → Type 0
StepsPass q k = (row : ℕ) → row < k → q.astray row ≡ false

-- all seven questions are answered yes
pub record Passes (q : Questions) : Type 0 where
  pub header : HeaderPasses q
  pub rows_pass : RowsPass q q.rows
  pub steps_pass : StepsPass q q.step_rows
