-- What a walk marks, and how far it has come.
use Rattle.std.specs.Prelude.{◌≡◌, ℕ, suc, ◌+◌, ◌<◌, ◌≤◌, Bool, true, false, cond, not, ◌&&◌, ◌⊎◌, List, [], ◌∷◌, length, take, Decides, nat_le, slice_index, slice_index_or, slice_set}
use Rattle.plan.specs.Model.{Model}
use Rattle.plan.specs.Runs.{Step, Marked, Unmarked, Leads}

-- the states of a set, kept as a list of yes and no
abbrev pub In : List Bool → ℕ → Type 0
In set s = slice_index_or set s false ≡ true

-- one of the first states leads to t: by one or more steps, with only unmarked states between
abbrev pub LedTo : Model → List Bool → ℕ → Type 0
LedTo m first t = (s : ℕ) × In first s × Leads m s t

-- a walk from the first states marks exactly the states that they lead to
abbrev pub Walked : Model → List Bool → List Bool → Type 0
Walked m first reached = (t : ℕ) → Decides (slice_index_or reached t false) (LedTo m first t)

-- how many are not in the set
abbrev pub absent : List Bool → ℕ
absent [] = 0
absent (true ∷ xs) = absent xs
absent (false ∷ xs) = suc (absent xs)

-- three slices of these lengths have room for n states
abbrev pub enough : ℕ → ℕ → ℕ → ℕ → Bool
enough n a b c = nat_le n a && nat_le n b && nat_le n c

-- The work of a walk: the states that were reached; those that were ever put into the queue; the queue, of which the
-- first `len` places are in use.
pub record Work : Type 0 where
  pub reached : List Bool
  pub queued : List Bool
  pub queue : List ℕ
  pub len : ℕ

-- there is room for each of n states
pub record Room (n : ℕ) (w : Work) : Type 0 where
  pub reached_long : n ≤ length w.reached
  pub queued_long : n ≤ length w.queued
  pub queue_long : n ≤ length w.queue
  pub places : w.len + absent (take n w.queued) ≤ n

-- a state that is reached goes into the queue if it is unmarked and was never in it
abbrev pub is_fresh : Model → Work → ℕ → Bool
is_fresh m w t = not (m.mark t) && not (slice_index_or w.queued t false)

-- the work after t is reached
abbrev pub after_reaching : Model → Work → ℕ → Work
after_reaching m w t = record {
  reached = slice_set w.reached t true;
  queued = cond (is_fresh m w t) (slice_set w.queued t true) w.queued;
  queue = cond (is_fresh m w t) (slice_set w.queue w.len t) w.queue;
  len = cond (is_fresh m w t) (w.len + 1) w.len;
}

-- w becomes v as t is reached
abbrev pub Reached : Model → ℕ → Work → Work → Type 0
Reached m t w v = v ≡ after_reaching m w t

-- how far a walk has come: the first `done` states of the queue have been expanded
pub record Progress (m : Model) (first : List Bool) (w : Work) (done : ℕ) : Type 0 where
  pub marks_true : (t : ℕ) → In w.reached t → LedTo m first t
  pub queue_true : (k : ℕ) → k < w.len → (In first (slice_index w.queue k)) ⊎ (LedTo m first (slice_index w.queue k) × Unmarked m (slice_index w.queue k))
  pub queued_stand : (u : ℕ) → In w.queued u → (k : ℕ) × (k < w.len) × (slice_index w.queue k ≡ u)
  pub first_queued : (s : ℕ) → s < m.states → In first s → In w.queued s
  pub reached_queued : (u : ℕ) → In w.reached u → Unmarked m u → In w.queued u
  pub expanded : (k : ℕ) → k < done → (t : ℕ) → Step m (slice_index w.queue k) t → In w.reached t

-- the state at place `at` of the queue is being expanded: its first i steps are reached
pub record Expanding (m : Model) (first : List Bool) (w : Work) (at i : ℕ) : Type 0 where
  pub progress : Progress m first w at
  pub standing : at < w.len
  pub so_far : (j : ℕ) → j < i → In w.reached (slice_index (m.steps (slice_index w.queue at)) j)

-- Expanding a state takes the work w to v: its first i steps are reached, whatever the first states are and wherever
-- in the queue it stands, and there is still room.
pub record Spread (m : Model) (state i : ℕ) (w v : Work) : Type 0 where
  pub room_stays : Room m.states v
  pub spreads : (first : List Bool) (at : ℕ) → slice_index w.queue at ≡ state → Expanding m first w at 0 → Expanding m first v at i × (slice_index v.queue at ≡ state)

-- those of the first i states that are in the set `first` are in the queue, and nothing else; n places are enough
pub record Loaded (n : ℕ) (first : List Bool) (queued : List Bool) (queue : List ℕ) (len i : ℕ) : Type 0 where
  pub queued_there : n ≤ length queued
  pub queue_there : n ≤ length queue
  pub places_left : len + absent (take n queued) ≤ n
  pub loaded_true : (k : ℕ) → k < len → In first (slice_index queue k)
  pub loaded_low : (u : ℕ) → In queued u → u < i
  pub loaded_stand : (u : ℕ) → In queued u → (k : ℕ) × (k < len) × (slice_index queue k ≡ u)
  pub loaded_first : (s : ℕ) → s < i → In first s → In queued s

-- a walk on its way: `done` states of the queue are expanded, and there is room for all others
pub record Walking (m : Model) (first : List Bool) (w : Work) (done : ℕ) : Type 0 where
  pub has_room : Room m.states w
  pub come_so_far : Progress m first w done
  pub not_past : done ≤ w.len

-- the set of one state; a state past the last place is in no set
abbrev pub OnlyOne : ℕ → List Bool → Type 0
OnlyOne s states = (u : ℕ) → Decides (slice_index_or states u false) ((u ≡ s) × (u < 128))

-- exactly the states that s leads to
abbrev pub LeadsInto : Model → ℕ → List Bool → Type 0
LeadsInto m s reached = (t : ℕ) → Decides (slice_index_or reached t false) (Leads m s t)

-- exactly the states that some marked state leads to
abbrev pub MarkedLeadInto : Model → List Bool → Type 0
MarkedLeadInto m reached = (t : ℕ) → Decides (slice_index_or reached t false) ((s : ℕ) × Marked m s × Leads m s t)
