-- What the three acceptance rules say, and when two states are acceptable.
use Rattle.std.specs.Prelude.{◌≡◌, ℕ, ◌<◌, Bool, true, false, ◌&&◌, ◌||◌, List, [], ◌∷◌, Some, None, Option, ◌==◌, nat_le}
use Rattle.plan.specs.Model.{Model}
use Rattle.rules.specs.declared.listed.CodePair.{CodePair}

-- What a rule means: yes or no, for a channel, a first code and a second code.
abbrev pub Says : Type 0
Says = ℕ → ℕ → ℕ → Bool

-- equal codes
abbrev pub exact_says : Says
exact_says channel first second = first == second

-- codes from here upward are faults
abbrev pub first_fault : ℕ
first_fault = 4294967040

-- equal codes, or a first code that is a fault
abbrev pub fault_says : Says
fault_says channel first second = first == second || nat_le first_fault first

-- a record names this channel and these two codes
abbrev pub names : CodePair → ℕ → ℕ → ℕ → Bool
names record_of channel first second = record_of.channel == channel && record_of.first == first && record_of.second == second

-- one of the records names all three; nothing is implied, not even 0 with 0
abbrev pub listed_says : List CodePair → Says
listed_says [] channel first second = false
listed_says (x ∷ xs) channel first second = names x channel first second || listed_says xs channel first second

-- Two states are acceptable when both plans have equally many channels and the rule says yes to their codes on each.
pub record Acceptable (a b : Model) (says : Says) (s t : ℕ) : Type 0 where
  pub as_many : a.channels ≡ b.channels
  pub on_each : (k : ℕ) → k < a.channels → says k (a.code s k) (b.code t k) ≡ true

-- k is a channel of the first plan on which the rule says no to the codes of the two states
abbrev pub RefusedOn : Model → Model → Says → ℕ → ℕ → ℕ → Type 0
RefusedOn a b says s t k = (k < a.channels) × (says k (a.code s k) (b.code t k) ≡ false)

-- the lowest such channel; none where the rule says yes on each channel of the first plan
abbrev pub LowestRefused : Model → Model → Says → ℕ → ℕ → Option ℕ → Type 0
LowestRefused a b says s t None = (k : ℕ) → k < a.channels → says k (a.code s k) (b.code t k) ≡ true
LowestRefused a b says s t (Some k) = RefusedOn a b says s t k × ((j : ℕ) → j < k → RefusedOn a b says s t j → ⊥)
