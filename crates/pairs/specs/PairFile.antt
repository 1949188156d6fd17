-- The layout of a pair file. Header, 6 bytes: the sign 52 4C, then words: number of pairs, offset of the rows.
-- A row, 2 bytes: the state of the first plan and the state of the second. Rows ascend by first, then second, without repeats.
use Rattle.std.specs.Prelude.{◌≡◌, ℕ, zero, suc, ◌+◌, ◌-◌, ◌*◌, ◌<◌, Bool, true, false, not, ◌&&◌, ◌||◌, List, length, ◌==◌, nat_le, nat_lt}
use Rattle.layout.specs.Bytes.{byte_at, word_at}
use Rattle.layout.specs.Lowest.{lowest}
use Rattle.layout.specs.Questions.{fits_length, begins_with, asked, row_asked}
use Rattle.layout.specs.Refusals.{refusal_numbers}
use Rattle.layout.specs.declared.refusal.FileRefusal.{FileRefusal}
use Rattle.plan.specs.declared.answer.Answer.{Answer}
use Rattle.pairs.specs.Pairs.{Pairs, is_pair}

abbrev pub count_in : List ℕ → ℕ
count_in b = word_at b 2

abbrev pub rows_in : List ℕ → ℕ
rows_in b = word_at b 4

-- the two states of row i
abbrev pub first_in : List ℕ → ℕ → ℕ
first_in b i = byte_at b (rows_in b + 2 * i)

abbrev pub second_in : List ℕ → ℕ → ℕ
second_in b i = byte_at b (rows_in b + 2 * i + 1)

-- question 1: the length; 2: the sign; 3: the count; 5: the rows follow the header and lie inside the file, held to their
-- offset also when there are none
abbrev pub length_fits : List ℕ → Bool
length_fits b = fits_length 6 b

abbrev pub has_sign : List ℕ → Bool
has_sign b = begins_with 0x52 0x4C b

abbrev pub count_fits : List ℕ → Bool
count_fits b = nat_le (count_in b) 16384

abbrev pub rows_fit : List ℕ → Bool
rows_fit b = nat_le 6 (rows_in b) && nat_le (rows_in b + 2 * count_in b) (length b)

-- the pair of f and t comes before that of g and u: by first, then second
abbrev pub before : ℕ → ℕ → ℕ → ℕ → Bool
before f t g u = nat_lt f g || (f == g && nat_lt t u)

-- question 7: row i does not come after the row before it
abbrev pub out_of_order : List ℕ → ℕ → Bool
out_of_order b i = nat_lt 0 i && not (before (first_in b (i - 1)) (second_in b (i - 1)) (first_in b i) (second_in b i))

-- the pairs of the first k rows
abbrev pub rows_up_to : List ℕ → ℕ → Pairs
rows_up_to b zero x y = false
rows_up_to b (suc i) x y = is_pair (first_in b i) (second_in b i) x y || rows_up_to b i x y

-- the pairs of a file
abbrev pub pairs_in : List ℕ → Pairs
pairs_in b = rows_up_to b (count_in b)

-- the first k rows are in order
abbrev pub InOrder : List ℕ → ℕ → Type 0
InOrder b k = (i : ℕ) → i < k → out_of_order b i ≡ false

-- what the file alone answers, before its states are looked at; `next` is what follows
abbrev pub file_asked : List ℕ → Answer → Answer
file_asked b next =
    asked (length_fits b) 1
    (asked (has_sign b) 2
    (asked (count_fits b) 3
    (asked (rows_fit b) 5
    (row_asked (lowest (out_of_order b) (count_in b)) 7 next))))

-- questions 1, 2, 3 and 5 are answered yes
pub record FramePasses (b : List ℕ) : Type 0 where
  pub length_passes : length_fits b ≡ true
  pub sign_passes : has_sign b ≡ true
  pub count_passes : count_fits b ≡ true
  pub rows_pass : rows_fit b ≡ true

-- the refusal is the file's, whatever would follow
abbrev pub RefusedFile : List ℕ → FileRefusal → Type 0
RefusedFile b refused = (next : Answer) → refusal_numbers refused ≡ file_asked b next
