-- Closings and next closings are states of the plan, and what a walk says of them.
use Rattle.std.proofs.Common.{◌≡◌, ℕ, ◌<◌, ◌≤◌, Bool, false, ◌&&◌, List, get_or, Decides, sym, ◌∙◌, ⊎_elim}
use Rattle.std.proofs.lemmas.Bool.{cases_lt, and_parts, and_from, both_ways}
use Rattle.plan.specs.Model.{Model, Lawful}
use Rattle.plan.specs.Runs.{Marked, Leads, NextClosing}
use Rattle.plan.specs.Runs.Leads.{by_step, through}
use Rattle.plan.proofs.Closings.{step_below}
use Rattle.walk.specs.Walking.{LeadsInto}

module _ (m : Model) where
  -- what a state leads to is a state of the plan
  pub next_below : Lawful m → (s x : ℕ) → Leads m s x → x < m.states
  next_below laws s x (by_step h) = step_below m laws s x h
  next_below laws s x (through {u = u} l unmarked h) = step_below m laws u x h

  -- a marked state is a state of the plan
  pub marked_below : Lawful m → (s : ℕ) → Marked m s → s < m.states
  marked_below laws s marked =
      ⊎_elim (λ (low : s < m.states). low) (λ (high : m.states ≤ s). absurd (both_ways (m.mark s) (laws.unmarked_past s high) marked)) (cases_lt s m.states)

  -- what a walk and a mark say together
  pub next_is : (s x : ℕ) (led : List Bool) (says : Bool) → LeadsInto m s led → says ≡ (get_or led x false && m.mark x) → Decides says (NextClosing m s x)
  next_is s x led says walked is = (
    λ both. let parts = and_parts (get_or led x false) (m.mark x) (sym is ∙ both) in ((walked x).0 parts.0, parts.1),
    λ next. is ∙ and_from (get_or led x false) (m.mark x) ((walked x).1 next.0) next.1,
  )
