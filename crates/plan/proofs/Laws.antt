-- A plan is lawful in one way only, and two plans that answer alike mean the same.
use Rattle.std.proofs.Common.{◌≡◌, ℕ}
use mathlib.Core.Logic.{∥∥₁_elim}
use native.Mathlib.Bridge.{le_prop}
use native.Mathlib.Nat.{ℕ_set}
use denote.Struct.Props.{props}
use Rattle.plan.specs.Model.{Model, Lawful, Inside, NoRepeats, Silent, UnmarkedPast, NoStepsPast, NoCodePast}

lawful_prop : (m : Model) → IsProp (Lawful m)
lawful_prop m a b =
    let inside_prop : IsProp (Inside m) = hlevel props in
    let no_repeats_prop : IsProp (NoRepeats m) = λ p q t s i j hi hj e. ℕ_set i j (p s i j hi hj e) (q s i j hi hj e) t in
    let silent_prop : IsProp (Silent m) = hlevel props in
    let unmarked_prop : IsProp (UnmarkedPast m) = hlevel props in
    let no_steps_prop : IsProp (NoStepsPast m) = hlevel props in
    let no_code_prop : IsProp (NoCodePast m) = hlevel props in
    λ i. record {
      some = le_prop a.some b.some i;
      few = le_prop a.few b.few i;
      begins = le_prop a.begins b.begins i;
      narrow = le_prop a.narrow b.narrow i;
      inside = inside_prop a.inside b.inside i;
      no_repeats = no_repeats_prop a.no_repeats b.no_repeats i;
      silent = silent_prop a.silent b.silent i;
      unmarked_past = unmarked_prop a.unmarked_past b.unmarked_past i;
      no_steps_past = no_steps_prop a.no_steps_past b.no_steps_past i;
      no_code_past = no_code_prop a.no_code_past b.no_code_past i;
    }

-- a plan kind keeps that it is lawful in a ghost field, which holds it truncated: here it comes out again
pub lawful_from : (m : Model) → ∥ Lawful m ∥₁ → Lawful m
lawful_from m kept = ∥∥₁_elim kept (lawful_prop m) (λ l. l)

-- two plans that answer every question alike mean the same
pub same_model :
    (m n : Model) → m.states ≡ n.states → m.start ≡ n.start → m.channels ≡ n.channels
    → ((s : ℕ) → m.mark s ≡ n.mark s)
    → ((s k : ℕ) → m.code s k ≡ n.code s k)
    → ((s : ℕ) → m.steps s ≡ n.steps s)
    → m ≡ n
same_model m n states start channels mark code steps =
    λ i. record {
      states = states i;
      start = start i;
      channels = channels i;
      mark = λ s. mark s i;
      code = λ s k. code s k i;
      steps = λ s. steps s i;
    }
