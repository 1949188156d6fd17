-- The tables that judging works with.
use Rattle.std.specs.Prelude.{ℕ, ◌<◌, Bool, not, ◌&&◌, List, [], ◌∷◌, slice_index_or}
use Rattle.plan.specs.declared.answer.Side.{Side}
use Rattle.plan.specs.declared.answer.Side.TheVariants.{First, Second}
use Rattle.plan.specs.Model.{Model}
use Rattle.pairs.specs.Pairs.{Pairs, Has, kept_pairs}
use Rattle.closings.specs.Tables.{Tabulates, Follows, CoveredBy, exchanged}
use Rattle.fitting.specs.declared.covering.Covering.{Covering}
use Rattle.fitting.specs.Judging.{IsUncovered}

-- the next closings of both plans, and which of them are covered
pub record Covers (a b : Model) (pairs : Pairs) (c : Covering) : Type 0 where
  pub first_next : Tabulates (Follows a) (kept_pairs c.next.first)
  pub second_next : Tabulates (Follows b) (kept_pairs c.next.second)
  pub first_covered : Tabulates (CoveredBy (kept_pairs c.next.second) pairs) (kept_pairs c.covered.first)
  pub second_covered : Tabulates (CoveredBy (kept_pairs c.next.first) (exchanged pairs)) (kept_pairs c.covered.second)

-- by these tables, for the pair of s and t, x is a next closing of this side's state and is not covered
abbrev pub uncovered_in : Covering → Side → ℕ → ℕ → ℕ → Bool
uncovered_in c First s t x = kept_pairs c.next.first s x && not (kept_pairs c.covered.first t x)
uncovered_in c Second s t x = kept_pairs c.next.second t x && not (kept_pairs c.covered.second s x)

-- every pair of the set with a first state below k has P
abbrev pub AllBelow : Pairs → (ℕ → ℕ → Type 0) → ℕ → Type 0
AllBelow pairs P k = (x y : ℕ) → x < k → Has pairs x y → P x y

-- every pair of s with a second state below k has P
abbrev pub RowBelow : Pairs → (ℕ → ℕ → Type 0) → ℕ → ℕ → Type 0
RowBelow pairs P s k = (y : ℕ) → y < k → Has pairs s y → P s y

-- the sides in their order
abbrev pub both_sides : List Side
both_sides = First ∷ Second ∷ []

abbrev pub side_at : ℕ → Side
side_at i = slice_index_or both_sides i First

-- for the pair of s and t, the first i sides have no uncovered closing
abbrev pub SidesCovered : Model → Model → Pairs → ℕ → ℕ → ℕ → Type 0
SidesCovered a b pairs s t i = (j : ℕ) → j < i → (x : ℕ) → IsUncovered a b pairs (side_at j) s t x → ⊥

-- and this side has none below k
abbrev pub ClosingsCovered : Model → Model → Pairs → Side → ℕ → ℕ → ℕ → Type 0
ClosingsCovered a b pairs side s t k = (x : ℕ) → x < k → IsUncovered a b pairs side s t x → ⊥
