-- Numbers in files: the low byte comes first. A byte past the end of the file reads as 0.
use Rattle.std.specs.Prelude.{ℕ, ◌+◌, ◌*◌, List, slice_index}

abbrev pub byte_at : List ℕ → ℕ → ℕ
byte_at b i = slice_index b i

-- a word has 2 bytes
abbrev pub word_at : List ℕ → ℕ → ℕ
word_at b i = byte_at b i + byte_at b (i + 1) * 256

-- a long has 4 bytes
abbrev pub long_at : List ℕ → ℕ → ℕ
long_at b i = byte_at b i + byte_at b (i + 1) * 256 + byte_at b (i + 2) * 65536 + byte_at b (i + 3) * 16777216
