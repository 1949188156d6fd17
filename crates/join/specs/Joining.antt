-- Two plans side by side, as one plan.
use Rattle.std.specs.Prelude.{◌≡◌, ℕ, ◌+◌, ◌-◌, ◌*◌, ◌/◌, ◌%◌, ◌<◌, Bool, cond, ◌&&◌, ◌||◌, List, [], ◌∷◌, ◌++◌, map, nat_le, nat_lt}
use Rattle.plan.specs.Model.{Model}

-- what a joined plan may have at most
abbrev pub states_fit : Model → Model → Bool
states_fit a b = nat_le (a.states * b.states) 128

abbrev pub channels_fit : Model → Model → Bool
channels_fit a b = nat_le (a.channels + b.channels) 4

abbrev pub fits_join : Model → Model → Bool
fits_join a b = states_fit a b && channels_fit a b

-- State x × n + y stands for x of the first plan and y of the second, which has n states:
-- each step of the first with each step of the second, the first's order outermost.
abbrev pub step_pairs : ℕ → List ℕ → List ℕ → List ℕ
step_pairs n [] ys = []
step_pairs n (x ∷ xs) ys = map (λ y. x * n + y) ys ++ step_pairs n xs ys

-- the plan of all pairs of states
abbrev pub side_by_side : Model → Model → Model
side_by_side a b = record {
  states = a.states * b.states;
  start = a.start * b.states + b.start;
  channels = a.channels + b.channels;
  mark = λ s. nat_lt s (a.states * b.states) && (a.mark (s / b.states) || b.mark (s % b.states));
  code = λ s k. cond (nat_lt s (a.states * b.states)) (cond (nat_lt k a.channels) (a.code (s / b.states) k) (b.code (s % b.states) (k - a.channels))) 0;
  steps = λ s. cond (nat_lt s (a.states * b.states)) (step_pairs b.states (a.steps (s / b.states)) (b.steps (s % b.states))) [];
}

-- one marked state without steps or channels: what two plans past the limits are joined to, so that every join is a plan
abbrev pub lone_state : Model
lone_state = record {
  states = 1;
  start = 0;
  channels = 0;
  mark = λ s. nat_lt s 1;
  code = λ s k. 0;
  steps = λ s. [];
}

abbrev pub joined : Model → Model → Model
joined a b = cond (fits_join a b) (side_by_side a b) lone_state

-- What the join m of two plans says of the state that stands for x and y: it is marked when either part is, its codes
-- are those of x followed by those of y, and a step takes one step of each, the first's order outermost.
pub record StandsFor (a b m : Model) (x y : ℕ) : Type 0 where
  pub exists : x * b.states + y < m.states
  pub marked_by_either : m.mark (x * b.states + y) ≡ (a.mark x || b.mark y)
  pub first_codes : (k : ℕ) → k < a.channels → m.code (x * b.states + y) k ≡ a.code x k
  pub second_codes : (k : ℕ) → m.code (x * b.states + y) (a.channels + k) ≡ b.code y k
  pub steps_of_both : m.steps (x * b.states + y) ≡ step_pairs b.states (a.steps x) (b.steps y)

-- m is a and b side by side
pub record SideBySide (a b m : Model) : Type 0 where
  pub states_multiply : m.states ≡ a.states * b.states
  pub channels_add : m.channels ≡ a.channels + b.channels
  pub starts_together : m.start ≡ a.start * b.states + b.start
  pub stands_for : (x y : ℕ) → x < a.states → y < b.states → StandsFor a b m x y
  -- and every state stands for two
  pub each_stands : (s : ℕ) → s < m.states → (x : ℕ) × (y : ℕ) × (x < a.states) × (y < b.states) × (s ≡ x * b.states + y)
