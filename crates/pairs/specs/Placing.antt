-- Rows that are put into a buffer, one behind another.
use Rattle.std.specs.Prelude.{◌≡◌, ℕ, ◌+◌, ◌*◌, List, ◌++◌, length, take, drop}
use Rattle.pairs.specs.Writing.{row_bytes}

-- the rows were put into the buffer from `from` on, up to `to`, and all else is as it was
pub record Placed (rows : List (ℕ × ℕ)) (before after : List ℕ) (from to : ℕ) : Type 0 where
  pub ends : to ≡ from + 2 * length rows
  pub bytes_are : after ≡ take from before ++ (row_bytes rows ++ drop to before)
