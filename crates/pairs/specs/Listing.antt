-- The pairs of a set in ascending order, and how many there are.
use Rattle.std.specs.Prelude.{◌≡◌, ℕ, zero, suc, ◌<◌, true, cond, ◌⊎◌, List, [], ◌∷◌, ◌++◌, length, slice_index_or}
use Rattle.pairs.specs.Pairs.{Pairs}

-- the pair of s and t comes before that of x and y: by first state, then by second
abbrev pub Earlier : ℕ → ℕ → ℕ → ℕ → Type 0
Earlier s t x y = (s < x) ⊎ ((s ≡ x) × (t < y))

-- the pairs of s with a second state below k, ascending
unfoldable pub partners_below : Pairs → ℕ → ℕ → List (ℕ × ℕ)
partners_below pairs s zero = []
partners_below pairs s (suc k) = partners_below pairs s k ++ cond (pairs s k) ((s, k) ∷ []) []

-- the pairs with a first state below k and a second one below 128, ascending
unfoldable pub pairs_below : Pairs → ℕ → List (ℕ × ℕ)
pairs_below pairs zero = []
pairs_below pairs (suc k) = pairs_below pairs k ++ partners_below pairs k 128

-- the pairs of a set, ascending. A plan has at most 128 states, so no pair of states is left out.
unfoldable pub listing : Pairs → List (ℕ × ℕ)
listing pairs = pairs_below pairs 128

-- how many pairs a set has
unfoldable pub pair_count : Pairs → ℕ
pair_count pairs = length (listing pairs)

-- the two states at place i of a list of pairs
abbrev pub first_at : List (ℕ × ℕ) → ℕ → ℕ
first_at xs i = (slice_index_or xs i (0, 0)).0

abbrev pub second_at : List (ℕ × ℕ) → ℕ → ℕ
second_at xs i = (slice_index_or xs i (0, 0)).1

-- The list has just the pairs of the set, each once, in ascending order.
pub record Lists (pairs : Pairs) (xs : List (ℕ × ℕ)) : Type 0 where
  pub ascends : (i j : ℕ) → i < j → j < length xs → Earlier (first_at xs i) (second_at xs i) (first_at xs j) (second_at xs j)
  pub each_listed : (s t : ℕ) → s < 128 → t < 128 → pairs s t ≡ true → (i : ℕ) × (i < length xs) × (first_at xs i ≡ s) × (second_at xs i ≡ t)
  pub each_stands : (i : ℕ) → i < length xs → (first_at xs i < 128) × (second_at xs i < 128) × (pairs (first_at xs i) (second_at xs i) ≡ true)
