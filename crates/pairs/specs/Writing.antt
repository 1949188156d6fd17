-- The pair file of a set of pairs, and what reading it gives.
use Rattle.std.specs.Prelude.{◌≡◌, ℕ, ◌/◌, ◌%◌, ◌<◌, ◌≤◌, List, [], ◌∷◌, ◌++◌, length, drop}
use Rattle.plan.specs.declared.answer.Answer.{Answer}
use Rattle.pairs.specs.Pairs.{Pairs}
use Rattle.pairs.specs.Listing.{listing, pair_count}
use Rattle.pairs.specs.PairFile.{count_in, pairs_in, file_asked}

-- a row has a byte for each of the two states
abbrev pub row_bytes : List (ℕ × ℕ) → List ℕ
row_bytes [] = []
row_bytes (x ∷ xs) = x.0 ∷ x.1 ∷ row_bytes xs

-- the header: the sign, the number of rows, and the offset of the rows, which is the header's own length
abbrev pub header_bytes : ℕ → List ℕ
header_bytes count = 0x52 ∷ 0x4C ∷ count % 256 ∷ count / 256 ∷ 6 ∷ 0 ∷ []

-- the file of a set of pairs: the header, and the rows directly after it, ascending
unfoldable pub pair_file : Pairs → List ℕ
pair_file pairs = header_bytes (pair_count pairs) ++ row_bytes (listing pairs)

-- a pair file is read as just these pairs
pub record ReadAs (pairs : Pairs) (file : List ℕ) : Type 0 where
  -- the file passes every question that is put to it alone
  pub passes : (next : Answer) → file_asked file next ≡ next
  pub as_many : count_in file ≡ pair_count pairs
  pub same_pairs : pairs_in file ≡ pairs

-- the file of these pairs is read as these pairs, alone and with further bytes behind it, up to 40,000 in all
abbrev pub ReadsBack : Pairs → Type 0
ReadsBack pairs = (more : List ℕ) → length (pair_file pairs ++ more) ≤ 40000 → ReadAs pairs (pair_file pairs ++ more)

-- the file was written to the front of the buffer, n bytes, and what lies behind it is untouched
pub record Written (file before after : List ℕ) (n : ℕ) : Type 0 where
  pub enough : length file ≤ length before
  pub told : n ≡ length file
  pub bytes_are : after ≡ file ++ drop (length file) before

-- the buffer is too short, which is told with the bytes needed, and nothing is touched
pub record NotWritten (file before after : List ℕ) (needed : ℕ) : Type 0 where
  pub too_short : length before < length file
  pub tells : needed ≡ length file
  pub untouched : after ≡ before
