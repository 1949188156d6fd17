-- What vetting a plan finds.
use Rattle.std.specs.Prelude.{◌≡◌, ℕ, ◌<◌}
use Rattle.plan.specs.declared.answer.Answer.{Answer}
use Rattle.plan.specs.Answers.{success, refusal_at}
use Rattle.plan.specs.Model.{Model}
use Rattle.plan.specs.Runs.{Marked, Unmarked, Stuck, Circling, Sound}
use Rattle.vet.specs.declared.finding.Finding.{Finding}
use Rattle.vet.specs.declared.finding.Finding.TheVariants.{SoundPlan, StartUnmarked, StuckAt, CirclingAt}

-- s is such a state, and no lower one is
abbrev pub LowestSuch : (ℕ → Type 0) → ℕ → Type 0
LowestSuch P s = P s × ((t : ℕ) → t < s → P t → ⊥)

-- The finding is true of the plan. The questions in their order, each of which is put where those before were answered
-- yes: Is the start marked? Has each unmarked state that can be reached from a marked one a step? Does none of them lie on
-- a cycle of unmarked states? The first no decides, and the lowest such state is named.
abbrev pub Finds : Model → Finding → Type 0
Finds m SoundPlan = Sound m
Finds m (StartUnmarked s) = (s ≡ m.start) × Unmarked m m.start
Finds m (StuckAt s) = Marked m m.start × LowestSuch (Stuck m) s
Finds m (CirclingAt s) = Marked m m.start × ((u : ℕ) → Stuck m u → ⊥) × LowestSuch (Circling m) s

-- only one finding is true of a plan
abbrev pub OneFinding : Model → Type 0
OneFinding m = (f g : Finding) → Finds m f → Finds m g → f ≡ g

-- the five numbers of a finding
abbrev pub finding_numbers : Finding → Answer
finding_numbers SoundPlan = success 0 0
finding_numbers (StartUnmarked s) = refusal_at 10 s
finding_numbers (StuckAt s) = refusal_at 11 s
finding_numbers (CirclingAt s) = refusal_at 12 s
