-- Sets of pairs of states, and the table that keeps one.
use Rattle.std.specs.Prelude.{◌≡◌, ℕ, ◌+◌, ◌*◌, ◌<◌, Bool, true, false, not, ◌&&◌, ◌||◌, List, ◌==◌, nat_lt, slice_index, slice_index_or}
use Rattle.pairs.specs.declared.table.PairTable.{PairTable}

-- a set of pairs: is this state of the first plan paired with this one of the second
abbrev pub Pairs : Type 0
Pairs = ℕ → ℕ → Bool

-- the pair is in the set
abbrev pub Has : Pairs → ℕ → ℕ → Type 0
Has pairs s t = pairs s t ≡ true

abbrev pub no_pairs : Pairs
no_pairs x y = false

-- it is this pair
abbrev pub is_pair : ℕ → ℕ → Pairs
is_pair s t x y = x == s && y == t

-- one pair more, and one pair less
abbrev pub with_pair : Pairs → ℕ → ℕ → Pairs
with_pair pairs s t x y = is_pair s t x y || pairs x y

abbrev pub without_pair : Pairs → ℕ → ℕ → Pairs
without_pair pairs s t x y = not (is_pair s t x y) && pairs x y

-- both states fit the table, which has a byte for each pair of states below 128
abbrev pub fits_table : ℕ → ℕ → Bool
fits_table s t = nat_lt s 128 && nat_lt t 128

-- the pairs that a table keeps: those whose byte is 1
abbrev pub kept_pairs : PairTable → Pairs
kept_pairs table x y = fits_table x y && slice_index table.bytes (x * 128 + y) == 1

-- whatever row i of the one set has, row j of the other has
abbrev pub RowWithin : Pairs → ℕ → Pairs → ℕ → Type 0
RowWithin pairs i other j = (y : ℕ) → Has pairs i y → Has other j y

-- the pairs with s are what one row says that is given for s
abbrev pub RowSays : (ℕ → List Bool → Type 0) → Pairs → ℕ → Type 0
RowSays gives pairs s = (row : List Bool) × gives s row × ((t : ℕ) → t < 128 → pairs s t ≡ slice_index_or row t false)
