-- How input splits into lines, and a line into fields.
use Rattle.std.specs.Prelude.{ℕ, cond, List, [], ◌∷◌, ◌==◌}

-- one byte more in front of the first piece; where there is no piece it makes one
abbrev pub in_front : ℕ → List (List ℕ) → List (List ℕ)
in_front c [] = (c ∷ []) ∷ []
in_front c (piece ∷ pieces) = (c ∷ piece) ∷ pieces

-- Byte 10 ends a line, and the last line may lack it. So a final byte 10 makes no further line, and empty input has no line.
abbrev pub lines_of : List ℕ → List (List ℕ)
lines_of [] = []
lines_of (c ∷ rest) = cond (c == 10) ([] ∷ lines_of rest) (in_front c (lines_of rest))

-- The fields of a line, with a space (byte 32) between each two: one more than there are spaces. Two spaces in a row, or one at
-- either end, make an empty field.
abbrev pub fields_of : List ℕ → List (List ℕ)
fields_of [] = [] ∷ []
fields_of (c ∷ rest) = cond (c == 32) ([] ∷ fields_of rest) (in_front c (fields_of rest))
