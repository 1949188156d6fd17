-- Runs of a plan, closings, and what it is for a plan to be sound.
use Rattle.std.specs.Prelude.{◌≡◌, ℕ, ◌+◌, ◌-◌, ◌<◌, ◌≤◌, true, false, List, length, slice_index, slice_index_or}
use Rattle.plan.specs.Model.{Model}

-- a record closes at a marked state
abbrev pub Marked : Model → ℕ → Type 0
Marked m s = m.mark s ≡ true

abbrev pub Unmarked : Model → ℕ → Type 0
Unmarked m s = m.mark s ≡ false

-- one of the steps of s leads to t
abbrev pub Step : Model → ℕ → ℕ → Type 0
Step m s t = (i : ℕ) × (i < length (m.steps s)) × (slice_index (m.steps s) i ≡ t)

-- A run from s is a list of states, s first, each later one reached by a step of the one before.
pub record Run (m : Model) (s : ℕ) (states : List ℕ) : Type 0 where
  pub some_state : 0 < length states
  pub from : slice_index_or states 0 0 ≡ s
  pub by_steps : (i : ℕ) → i + 1 < length states → Step m (slice_index states i) (slice_index states (i + 1))

-- a run halts when its last state has no step
abbrev pub Halts : Model → List ℕ → Type 0
Halts m states = length (m.steps (slice_index states (length states - 1))) ≡ 0

-- t is reached from s: by some steps, or by none
pub data Reaches (m : Model) (s : ℕ) : ℕ → Type 0 where
  at_once : Reaches m s s
  onward : {u t : ℕ} → Reaches m s u → Step m u t → Reaches m s t

-- t is reached from s by one or more steps with only unmarked states between
pub data Leads (m : Model) (s : ℕ) : ℕ → Type 0 where
  by_step : {t : ℕ} → Step m s t → Leads m s t
  through : {u t : ℕ} → Leads m s u → Unmarked m u → Step m u t → Leads m s t

-- a next closing of s: a marked state that s leads to. A state is its own next closing only by steps that lead back to it.
abbrev pub NextClosing : Model → ℕ → ℕ → Type 0
NextClosing m s t = Leads m s t × Marked m t

-- an unmarked state that can be reached from some marked state
abbrev pub Between : Model → ℕ → Type 0
Between m u = Unmarked m u × ((s : ℕ) × Marked m s × Reaches m s u)

-- no record closes any more: such a state has no step
abbrev pub Stuck : Model → ℕ → Type 0
Stuck m u = Between m u × (length (m.steps u) ≡ 0)

-- a record may never close: such a state lies on a cycle of unmarked states. A step to itself is a cycle.
abbrev pub Circling : Model → ℕ → Type 0
Circling m u = Between m u × Leads m u u

-- A plan is sound when its start is marked, and each unmarked state that can be reached from any marked state has a
-- step and lies on no cycle of unmarked states. A marked state without steps is allowed.
pub record Sound (m : Model) : Type 0 where
  pub start_marked : Marked m m.start
  pub none_stuck : (u : ℕ) → Stuck m u → ⊥
  pub none_circling : (u : ℕ) → Circling m u → ⊥

-- among any 128 states in a row there is a closing
abbrev pub ClosesWithin128 : Model → List ℕ → Type 0
ClosesWithin128 m states = (k : ℕ) → k + 128 ≤ length states → (i : ℕ) × (k ≤ i) × (i < k + 128) × Marked m (slice_index states i)

-- if it halts, then at a closing
abbrev pub HaltsAtClosing : Model → List ℕ → Type 0
HaltsAtClosing m states = Halts m states → Marked m (slice_index states (length states - 1))

-- records go on closing: each run from the start has a closing among any 128 states in a row, and halts only at a closing
abbrev pub KeepsClosing : Model → Type 0
KeepsClosing m = (states : List ℕ) → Run m m.start states → ClosesWithin128 m states × HaltsAtClosing m states
