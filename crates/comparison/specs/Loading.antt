-- What the parts of loading a pair file give.
use Rattle.std.specs.Prelude.{◌≡◌, ℕ, ◌<◌, true, List, Some, None}
use Rattle.pairs.specs.Pairs.{fits_table}
use Rattle.pairs.specs.PairFile.{count_in, first_in, second_in}
use Rattle.comparison.specs.declared.refusal.PairRefusal.{PairRefusal}
use Rattle.comparison.specs.declared.refusal.LoadRefusal.{LoadRefusal}
use Rattle.comparison.specs.declared.refusal.LoadRefusal.TheVariants.{BadFile, BadRow}
use Rattle.comparison.specs.Settings.{Setting}
use Rattle.comparison.specs.Calls.{row_refused}

-- none of the first k rows is refused
abbrev pub RowsAllowed : Setting → List ℕ → ℕ → Type 0
RowsAllowed setting file k = (i : ℕ) → i < k → row_refused setting file i ≡ None

-- the lowest row that is refused, and why
pub record LowestRefusedRow (setting : Setting) (file : List ℕ) (found : ℕ × PairRefusal) : Type 0 where
  pub is_row : found.0 < count_in file
  pub is_refused : row_refused setting file found.0 ≡ Some found.1
  pub earlier_allowed : RowsAllowed setting file found.0

-- the refusal names that row, and is no refusal of the file itself
abbrev pub RefusedRow : Setting → List ℕ → LoadRefusal → Type 0
RefusedRow setting file (BadFile refusal) = ⊥
RefusedRow setting file (BadRow row refusal) = LowestRefusedRow setting file (row, refusal)

-- the states of the first k rows fit the table
abbrev pub RowsFit : List ℕ → ℕ → Type 0
RowsFit file k = (i : ℕ) → i < k → fits_table (first_in file i) (second_in file i) ≡ true
