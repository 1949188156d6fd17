-- In a sound plan records go on closing.
use Rattle.std.proofs.Common.{◌≡◌, ℕ, zero, suc, ◌+◌, ◌-◌, ◌<◌, ◌≤◌, true, false, ◌⊎◌, List, length, get_or, sym, ap, ◌∙◌, subst, inl, inr, ⊎_elim, add-one, arith}
use Rattle.std.proofs.lemmas.Bool.{cases_Bool, cases_lt, both_ways}
use Rattle.plan.specs.Model.{Model, Lawful}
use Rattle.plan.specs.Runs.{Marked, Unmarked, Step, Run, Reaches, Leads, Sound, KeepsClosing}
use Rattle.plan.specs.Runs.Reaches.{at_once, onward}
use Rattle.plan.specs.Runs.Leads.{by_step, through}
use Rattle.plan.proofs.Pigeons.{pigeons_but, Twice}

module _ (m : Model) where
  -- what is led to is reached
  pub leads_reaches : (s t : ℕ) → Leads m s t → Reaches m s t
  leads_reaches s t (by_step h) = onward at_once h
  leads_reaches s t (through l _ h) = onward (leads_reaches s _ l) h

  -- an unmarked state that is reached from a marked one is led to by a marked one: the last on the way
  pub led_to : (s u : ℕ) → Marked m s → Reaches m s u → Unmarked m u → (v : ℕ) × Marked m v × Leads m v u
  led_to s u marked at_once unmarked = absurd (both_ways (m.mark s) unmarked marked)
  led_to s t marked (onward {u = w} r h) unmarked =
      ⊎_elim
      (λ (closing : m.mark w ≡ true). (w, closing, by_step h))
      (λ (between : m.mark w ≡ false).
      let before = led_to s w marked r between in
      (before.0, before.1, through before.2 between h))
      (cases_Bool (m.mark w))

  module _ (laws : Lawful m) where
    -- a step leads to a state
    pub step_below : (s t : ℕ) → Step m s t → t < m.states
    step_below s t h = subst (λ k. k < m.states) h.2 (laws.inside s h.0 h.1)

    module _ (states : List ℕ) (run : Run m m.start states) where
      -- each state of a run is a state, and is reached from the start
      pub run_reaches : (i : ℕ) → i < length states → Reaches m m.start (get_or states i 0)
      run_reaches zero low = subst (Reaches m m.start) (sym run.from) at_once
      run_reaches (suc i) low =
          onward (run_reaches i (omega arith))
          (subst (λ k. Step m (get_or states i 0) (get_or states k 0)) (add-one i) (run.by_steps i (omega (arith, low))))

      run_below : (i : ℕ) → i < length states → get_or states i 0 < m.states
      run_below zero low = subst (λ k. k < m.states) (sym run.from) laws.begins
      run_below (suc i) low = subst (λ k. get_or states k 0 < m.states) (add-one i) (step_below _ _ (run.by_steps i (omega (arith, low))))

      -- a part of a run with only unmarked states leads from its first state to its last
      part_leads : (k d : ℕ) → k + suc d < length states → ((i : ℕ) → k < i → i < k + suc d → Unmarked m (get_or states i 0))
          → Leads m (get_or states k 0) (get_or states (k + suc d) 0)
      part_leads k zero low unmarked = by_step (run.by_steps k low)
      part_leads k (suc d) low unmarked =
          let e : k + suc d + 1 ≡ k + suc (suc d) = omega arith in
          through (part_leads k d (omega (arith, low)) (λ i after before. unmarked i after (omega (arith, before))))
          (unmarked (k + suc d) (omega arith) (omega arith))
          (subst (λ j. Step m (get_or states (k + suc d) 0) (get_or states j 0)) e (run.by_steps (k + suc d) (omega (arith, low))))

  -- one of d states in a row is marked, or all are unmarked
  closing_in : (states : List ℕ) (k d : ℕ) → ((i : ℕ) × (k ≤ i) × (i < k + d) × Marked m (get_or states i 0)) ⊎ ((i : ℕ) → k ≤ i → i < k + d → Unmarked m (get_or states i 0))
  closing_in states k zero = inr (λ i low high. absurd (omega (arith, low, high)))
  closing_in states k (suc d) =
      ⊎_elim
      (λ there. inl (there.0, there.1, omega (arith, there.2), there.3))
      (λ none.
      ⊎_elim
      (λ (marked : m.mark (get_or states (k + d) 0) ≡ true). inl (k + d, omega arith, omega arith, marked))
      (λ (unmarked : m.mark (get_or states (k + d) 0) ≡ false).
      inr (λ i low high.
      ⊎_elim
      (λ (before : i < k + d). none i low before)
      (λ (last : k + d ≤ i). let e : k + d ≡ i = omega (arith, high) in subst (λ j. Unmarked m (get_or states j 0)) e unmarked)
      (cases_lt i (k + d))))
      (cases_Bool (m.mark (get_or states (k + d) 0))))
      (closing_in states k d)

  -- the theorem
  pub keeps_closing : Lawful m → Sound m → KeepsClosing m
  keeps_closing laws sound states run = (
    λ k long.
        ⊎_elim
        (λ there. there)
        (λ none.
        let at : ℕ → ℕ = λ i. get_or states (k + i) 0 in
        let never : (i : ℕ) → i < 128 → at i ≡ m.start → ⊥ =
        λ i low e. both_ways (m.mark m.start) (subst (λ s. m.mark s ≡ false) e (none (k + i) (omega arith) (omega arith))) sound.start_marked in
        let twice : Twice at 128 = pigeons_but m.states 128 m.start at laws.begins (λ i low. run_below laws states run (k + i) (omega arith)) never laws.few in
        let i = twice.0 in
        let j = twice.1 in
        let d : ℕ = j - i - 1 in
        let order : i < j = twice.2 in
        let inside : j < 128 = twice.3 in
        let gap : k + i + suc d ≡ k + j = omega arith in
        let circle : Leads m (at i) (get_or states (k + i + suc d) 0) =
        part_leads laws states run (k + i) d (omega arith) (λ p after before. none p (omega arith) (omega arith)) in
        let back : Leads m (at i) (at i) =
        subst (λ t. Leads m (at i) t) (ap (λ p. get_or states p 0) gap ∙ sym twice.4) circle in
        absurd
        (sound.none_circling (at i)
        ((none (k + i) (omega arith) (omega arith), (m.start, sound.start_marked, run_reaches laws states run (k + i) (omega arith))), back)))
        (closing_in states k 128),
    λ halts.
        let some : 0 < length states = run.some_state in
        let last : ℕ = length states - 1 in
        ⊎_elim
        (λ (marked : m.mark (get_or states last 0) ≡ true). marked)
        (λ (unmarked : m.mark (get_or states last 0) ≡ false).
        absurd
        (sound.none_stuck (get_or states last 0)
        ((unmarked, (m.start, sound.start_marked, run_reaches laws states run last (omega arith))), halts)))
        (cases_Bool (m.mark (get_or states last 0))),
  )
