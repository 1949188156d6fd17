-- What a plan means, and the laws that every plan keeps, whatever kind it is.
use Rattle.std.specs.Prelude.{◌≡◌, ℕ, ◌<◌, ◌≤◌, Bool, false, List, [], length, slice_index}

-- A sampling plan, by what it answers. Its states are the numbers below `states`.
pub record Model : Type 0 where
  -- how many states there are
  pub states : ℕ
  -- the state in which the logger begins
  pub start : ℕ
  -- how many channels a record may close on
  pub channels : ℕ
  -- is the state marked: does a record close there
  pub mark : ℕ → Bool
  -- the code that a state closes a channel with, by state and channel; 0: no record closes on it
  pub code : ℕ → ℕ → ℕ
  -- the states that a state steps to, in the plan's order
  pub steps : ℕ → List ℕ

-- each step leads to a state of the plan
abbrev pub Inside : Model → Type 0
Inside m = (s i : ℕ) → i < length (m.steps s) → slice_index (m.steps s) i < m.states

-- no state lists the same step twice
abbrev pub Distinct : List ℕ → Type 0
Distinct xs = (i j : ℕ) → i < length xs → j < length xs → slice_index xs i ≡ slice_index xs j → i ≡ j

abbrev pub NoRepeats : Model → Type 0
NoRepeats m = (s : ℕ) → Distinct (m.steps s)

-- an unmarked state has only code 0
abbrev pub Silent : Model → Type 0
Silent m = (s k : ℕ) → m.mark s ≡ false → m.code s k ≡ 0

-- a state that does not exist is not marked, has code 0 on every channel, and has no steps;
-- a channel that does not exist has code 0. (A step that does not exist is 0, since `slice_index` gives 0 past the end.)
abbrev pub UnmarkedPast : Model → Type 0
UnmarkedPast m = (s : ℕ) → m.states ≤ s → m.mark s ≡ false

abbrev pub NoStepsPast : Model → Type 0
NoStepsPast m = (s : ℕ) → m.states ≤ s → m.steps s ≡ []

abbrev pub NoCodePast : Model → Type 0
NoCodePast m = (s k : ℕ) → m.channels ≤ k → m.code s k ≡ 0

-- What every plan kind owes: the ranges, the three laws, and the answers for what does not exist.
-- (That a state past the last one has code 0 follows from `unmarked_past` and `silent`.)
pub record Lawful (m : Model) : Type 0 where
  pub some : 0 < m.states
  pub few : m.states ≤ 128
  pub begins : m.start < m.states
  pub narrow : m.channels ≤ 4
  pub inside : Inside m
  pub no_repeats : NoRepeats m
  pub silent : Silent m
  pub unmarked_past : UnmarkedPast m
  pub no_steps_past : NoStepsPast m
  pub no_code_past : NoCodePast m
