-- A round over tables: which pairs are taken out of a set, and what is left.
use Rattle.std.specs.Prelude.{◌≡◌, ℕ, ◌<◌, Bool, Decides, MatchBool}
use Rattle.pairs.specs.Pairs.{Pairs, Has, RowWithin, kept_pairs}
use Rattle.pairs.specs.Listing.{pair_count}
use Rattle.closings.specs.Tables.{CoveredBy, exchanged}
use Rattle.closings.specs.declared.sides.Closings.{Closings}

-- By these tables every next closing of either state is covered: next closings by closing, covered ones by the state of the other
-- plan that covers them.
abbrev pub CoveredIn : Closings → Closings → ℕ → ℕ → Type 0
CoveredIn next covered s t =
    RowWithin (kept_pairs next.first) s (kept_pairs covered.first) t × RowWithin (kept_pairs next.second) t (kept_pairs covered.second) s

-- the same by next closings alone: each forms a pair of the set with a next closing of the other state
abbrev pub MatchedBy : Closings → Pairs → ℕ → ℕ → Type 0
MatchedBy next pairs s t =
    ((x : ℕ) → Has (kept_pairs next.first) s x → CoveredBy (kept_pairs next.second) pairs t x)
    × ((y : ℕ) → Has (kept_pairs next.second) t y → CoveredBy (kept_pairs next.first) (exchanged pairs) s y)

-- what has not P in the first k places of row s was taken out
abbrev pub RowSwept : (ℕ → ℕ → Type 0) → ℕ → ℕ → Pairs → Pairs → Type 0
RowSwept P s k old new = (x y : ℕ) → Decides (new x y) (Has old x y × (x ≡ s → y < k → P s y))

-- what has not P in the rows below k was taken out
abbrev pub RowsSwept : (ℕ → ℕ → Type 0) → ℕ → Pairs → Pairs → Type 0
RowsSwept P k old new = (x y : ℕ) → Decides (new x y) (Has old x y × (x < k → P x y))

-- whatever has not P was taken out
abbrev pub Swept : (ℕ → ℕ → Type 0) → Pairs → Pairs → Type 0
Swept P old new = (x y : ℕ) → Decides (new x y) (Has old x y × P x y)

-- The flag tells whether a pair was taken out: there are fewer then, and else the set is as it was.
abbrev pub Tells : Bool → Pairs → Pairs → Type 0
Tells struck old new = MatchBool struck (pair_count new < pair_count old) (new ≡ old)
