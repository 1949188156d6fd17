-- Tables of pairs of states: next closings, and what they cover.
use Rattle.std.specs.Prelude.{ℕ, Decides}
use Rattle.plan.specs.Model.{Model}
use Rattle.plan.specs.Runs.{Marked, NextClosing}
use Rattle.pairs.specs.Pairs.{Pairs, Has}

-- the table has just the pairs with P
abbrev pub Tabulates : (ℕ → ℕ → Type 0) → Pairs → Type 0
Tabulates P table = (s x : ℕ) → Decides (table s x) (P s x)

-- x is a next closing of the closing s
abbrev pub Follows : Model → ℕ → ℕ → Type 0
Follows m s x = Marked m s × NextClosing m s x

-- x forms a pair of the set with something that t has in the table
abbrev pub CoveredBy : Pairs → Pairs → ℕ → ℕ → Type 0
CoveredBy next pairs t x = (y : ℕ) × Has next t y × Has pairs x y

-- a set with the states of each pair exchanged
abbrev pub exchanged : Pairs → Pairs
exchanged pairs x y = pairs y x
