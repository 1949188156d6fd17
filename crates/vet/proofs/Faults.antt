-- States between closings, and why only one finding is true.
use Rattle.std.proofs.Common.{◌≡◌, ℕ, ◌<◌, ◌≤◌, Bool, false, not, ◌&&◌, List, get_or, Option, Some, None, MatchOption, Decides, sym, refl, ap, ◌∙◌, ⊎_elim, arith}
use Rattle.std.proofs.lemmas.Bool.{and_parts, and_from, not-true, not_from_false, both_ways, cases_order}
use Rattle.plan.specs.Model.{Model, Lawful}
use Rattle.plan.specs.Runs.{Leads, Between, Stuck, Circling}
use Rattle.plan.specs.Runs.Leads.{by_step, through}
use Rattle.plan.proofs.Closings.{leads_reaches, led_to, step_below}
use Rattle.walk.specs.Walking.{MarkedLeadInto}
use Rattle.vet.specs.declared.finding.Finding.TheVariants.{SoundPlan, StartUnmarked, StuckAt, CirclingAt}
use Rattle.vet.specs.Findings.{LowestSuch, OneFinding}

module _ (m : Model) where
  -- the states that marked ones lead to, and their marks, tell which states are between closings
  pub between_is : (led : List Bool) (u : ℕ) (reached mark : Bool) → MarkedLeadInto m led → reached ≡ get_or led u false → mark ≡ m.mark u
      → Decides (reached && not mark) (Between m u)
  between_is led u reached mark walked is marks = (
    λ both.
        let parts = and_parts reached (not mark) both in
        let from-marked = (walked u).0 (sym is ∙ parts.0) in
        (sym marks ∙ not-true mark parts.1, (from-marked.0, from-marked.1, leads_reaches m from-marked.0 u from-marked.2)),
    λ between.
        let last = led_to m between.1.0 u between.1.1 between.1.2 between.0 in
        and_from reached (not mark) (is ∙ (walked u).1 last) (not_from_false mark (marks ∙ between.0)),
  )

  -- a state that some state leads to is a state of the plan
  leads_below : Lawful m → (s t : ℕ) → Leads m s t → t < m.states
  leads_below laws s t (by_step h) = step_below m laws s t h
  leads_below laws s t (through {u = u} l unmarked h) = step_below m laws u t h

  between_below : Lawful m → (u : ℕ) → Between m u → u < m.states
  between_below laws u between =
      let last = led_to m between.1.0 u between.1.1 between.1.2 between.0 in
      leads_below laws last.0 u last.2

  -- the first of the plan's states with a fault is the lowest one, where only states between closings have it
  pub lowest_is : Lawful m → (P : ℕ → Type 0) → ((u : ℕ) → P u → Between m u) → (from n : ℕ) (found : Option ℕ) → from ≡ 0 → n ≡ m.states
      → MatchOption found ((u : ℕ) → from ≤ u → u < n → P u → ⊥) (λ s. (from ≤ s) × (s < n) × P s × ((t : ℕ) → from ≤ t → t < s → P t → ⊥))
      → MatchOption found ((u : ℕ) → P u → ⊥) (LowestSuch P)
  lowest_is laws P between from n None from_first all_states h = λ u fault.
      h u (omega (arith, from_first)) (omega (arith, all_states, between_below laws u (between u fault))) fault
  lowest_is laws P between from n (Some s) from_first all_states h = (h.2, λ t below. h.3 t (omega (arith, from_first)) below)

-- two lowest such states are the same
pub same_lowest : (P : ℕ → Type 0) (s t : ℕ) → LowestSuch P s → LowestSuch P t → s ≡ t
same_lowest P s t low low' =
    ⊎_elim
    (λ (same : s ≡ t). same)
    (⊎_elim (λ (less : s < t). absurd (low'.1 s less low.0)) (λ (more : t < s). absurd (low.1 t more low'.0)))
    (cases_order s t)

pub one_finding : (m : Model) → OneFinding m
one_finding m SoundPlan SoundPlan a b = refl
one_finding m SoundPlan (StartUnmarked t) a b = absurd (both_ways (m.mark m.start) b.1 a.start_marked)
one_finding m SoundPlan (StuckAt t) a b = absurd (a.none_stuck t b.1.0)
one_finding m SoundPlan (CirclingAt t) a b = absurd (a.none_circling t b.2.0)
one_finding m (StartUnmarked s) SoundPlan a b = absurd (both_ways (m.mark m.start) a.1 b.start_marked)
one_finding m (StartUnmarked s) (StartUnmarked t) a b = ap StartUnmarked (a.0 ∙ sym b.0)
one_finding m (StartUnmarked s) (StuckAt t) a b = absurd (both_ways (m.mark m.start) a.1 b.0)
one_finding m (StartUnmarked s) (CirclingAt t) a b = absurd (both_ways (m.mark m.start) a.1 b.0)
one_finding m (StuckAt s) SoundPlan a b = absurd (b.none_stuck s a.1.0)
one_finding m (StuckAt s) (StartUnmarked t) a b = absurd (both_ways (m.mark m.start) b.1 a.0)
one_finding m (StuckAt s) (StuckAt t) a b = ap StuckAt (same_lowest (Stuck m) s t a.1 b.1)
one_finding m (StuckAt s) (CirclingAt t) a b = absurd (b.1 s a.1.0)
one_finding m (CirclingAt s) SoundPlan a b = absurd (b.none_circling s a.2.0)
one_finding m (CirclingAt s) (StartUnmarked t) a b = absurd (both_ways (m.mark m.start) b.1 a.0)
one_finding m (CirclingAt s) (StuckAt t) a b = absurd (a.1 t b.1.0)
one_finding m (CirclingAt s) (CirclingAt t) a b = ap CirclingAt (same_lowest (Circling m) s t a.2 b.2)
