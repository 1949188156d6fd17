-- When a set of pairs of states fits two plans, and when two states are bisimilar to a depth.
use Rattle.std.specs.Prelude.{ℕ, zero, suc}
use Rattle.plan.specs.Model.{Model}
use Rattle.plan.specs.Runs.{Marked, NextClosing, KeepsClosing}
use Rattle.rules.specs.Rules.{Says, Acceptable}
use Rattle.pairs.specs.Pairs.{Pairs, Has}

-- Every next closing of either state has a next closing of the other such that P holds of the two: from the first plan to
-- the second, and back.
pub record Matched (a b : Model) (P : ℕ → ℕ → Type 0) (s t : ℕ) : Type 0 where
  pub forth : (x : ℕ) → NextClosing a s x → (y : ℕ) × NextClosing b t y × P x y
  pub back : (y : ℕ) → NextClosing b t y → (x : ℕ) × NextClosing a s x × P x y

-- the set joins only marked states
abbrev pub OnlyMarked : Model → Model → Pairs → Type 0
OnlyMarked a b pairs = (s t : ℕ) → Has pairs s t → Marked a s × Marked b t

-- the set joins only acceptable states
abbrev pub AllAcceptable : Model → Model → Says → Pairs → Type 0
AllAcceptable a b says pairs = (s t : ℕ) → Has pairs s t → Acceptable a b says s t

-- for each pair of the set, every next closing of either state has a next closing of the other such that those two form a pair
-- of the set
abbrev pub AllCovered : Model → Model → Pairs → Type 0
AllCovered a b pairs = (s t : ℕ) → Has pairs s t → Matched a b (Has pairs) s t

-- A set of pairs fits (it is a cut-bisimulation that joins the starts, within what the rule accepts).
pub record Fits (a b : Model) (says : Says) (pairs : Pairs) : Type 0 where
  pub joins_starts : Has pairs a.start b.start
  pub only_marked : OnlyMarked a b pairs
  pub all_acceptable : AllAcceptable a b says pairs
  pub all_covered : AllCovered a b pairs

-- two closings, one of each plan, that the rule accepts together
pub record Compatible (a b : Model) (says : Says) (s t : ℕ) : Type 0 where
  pub first_marked : Marked a s
  pub second_marked : Marked b t
  pub acceptable : Acceptable a b says s t

-- Two states are bisimilar to depth 0 when they are compatible; to depth k + 1 when they are compatible and every next closing of
-- either has a next closing of the other with which it is bisimilar to depth k.
unfoldable pub Bisimilar : Model → Model → Says → ℕ → ℕ → ℕ → Type 0
Bisimilar a b says zero s t = Compatible a b says s t
Bisimilar a b says (suc k) s t = Compatible a b says s t × Matched a b (Bisimilar a b says k) s t

-- Two plans agree at every closing for ever: their starts are bisimilar to every depth, and in both records go on closing (each run
-- from the start has a closing among any 128 states in a row, and halts only at a closing).
pub record Agree (a b : Model) (says : Says) : Type 0 where
  pub to_every_depth : (k : ℕ) → Bisimilar a b says k a.start b.start
  pub first_closes : KeepsClosing a
  pub second_closes : KeepsClosing b
