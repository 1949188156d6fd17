-- The largest fitting set, and the rounds in which it is found.
use Rattle.std.specs.Prelude.{ℕ, Decides}
use Rattle.plan.specs.Model.{Model}
use Rattle.rules.specs.Rules.{Says}
use Rattle.pairs.specs.Pairs.{Pairs, Has}
use Rattle.fitting.specs.Bisimilarity.{Matched, Fits, Bisimilar}

-- some set fits
abbrev pub SomeFits : Model → Model → Says → Type 0
SomeFits a b says = (pairs : Pairs) × Fits a b says pairs

-- The largest fitting set has every pair of every fitting set.
pub record Largest (a b : Model) (says : Says) (pairs : Pairs) : Type 0 where
  pub fits : Fits a b says pairs
  pub has_every : (other : Pairs) → Fits a b says other → (s t : ℕ) → Has other s t → Has pairs s t

-- the set after k rounds: just the pairs that are bisimilar to depth k
abbrev pub Round : Model → Model → Says → ℕ → Pairs → Type 0
Round a b says k pairs = (s t : ℕ) → Decides (pairs s t) (Bisimilar a b says k s t)

-- one round more: just the pairs of the set before whose next closings, of either side, that set covers
abbrev pub NextRound : Model → Model → Pairs → Pairs → Type 0
NextRound a b old new = (s t : ℕ) → Decides (new s t) (Has old s t × Matched a b (Has old) s t)

-- Where no set fits, the starts are not bisimilar to depth 16,384: each round that changes anything leaves fewer of at most 128 times
-- 128 pairs, so after at most so many rounds nothing changes, and what is left then is closed.
abbrev pub NoneFitsMeans : Model → Model → Says → Type 0
NoneFitsMeans a b says = (SomeFits a b says → ⊥) → Bisimilar a b says 16384 a.start b.start → ⊥
