-- What a table keeps of its rows, and the plan that they stand for.
use Rattle.std.specs.Prelude.{◌≡◌, ℕ, ◌+◌, Bool, true, false, cond, not, ◌&&◌, List, [], ◌∷◌, length, get_or, ◌==◌, nat_lt, slice_index_or}
use Rattle.plan.specs.Model.{Model}
use Rattle.layout.specs.Bytes.{byte_at, long_at}
use Rattle.table.specs.Layout.{flag_set, row_place}
use Rattle.table.specs.declared.row.Row.{Row}
use Rattle.table.specs.declared.row.Steps.{Steps}
use Rattle.table.specs.declared.row.Steps.TheVariants.{Halt, One, Two}

abbrev pub step_list : Steps → List ℕ
step_list Halt = []
step_list (One t) = t ∷ []
step_list (Two t u) = t ∷ u ∷ []

-- every step leads to a state below n
abbrev pub leads_within : ℕ → Steps → Bool
leads_within n Halt = true
leads_within n (One t) = nat_lt t n
leads_within n (Two t u) = nat_lt t n && nat_lt u n

-- the row of a state that does not exist
abbrev pub blank : Row
blank = record { marked = false; code = 0; steps = Halt }

-- the plan that n rows stand for
abbrev pub stored_plan : ℕ → ℕ → List Row → Model
stored_plan n start rows = record {
  states = n;
  start = start;
  channels = 1;
  mark = λ s. (get_or rows s blank).marked;
  code = λ s k. cond (k == 0) (get_or rows s blank).code 0;
  steps = λ s. step_list (get_or rows s blank).steps;
}

-- what is kept of the targets in a file's row
abbrev pub kept_steps : ℕ → ℕ → ℕ → Steps
kept_steps flags first second =
    cond (flag_set flags 1) (cond (flag_set flags 2 && not (first == second)) (Two first second) (One first)) Halt

-- what is kept of the row that begins at this place of a file
abbrev pub kept_row : List ℕ → ℕ → Row
kept_row b at = record {
  marked = flag_set (byte_at b at) 0;
  code = long_at b (at + 4);
  steps = kept_steps (byte_at b at) (byte_at b (at + 1)) (byte_at b (at + 2));
}

-- the first k rows of a file are kept, and nothing else is
pub record Kept (b : List ℕ) (k : ℕ) (rows : List Row) : Type 0 where
  pub long : length rows ≡ 128
  pub each : (s : ℕ) → slice_index_or rows s blank ≡ cond (nat_lt s k) (kept_row b (row_place b s)) blank
