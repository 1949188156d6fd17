-- What a drawing keeps of its rows, and the plan that this stands for.
use Rattle.std.specs.Prelude.{ℕ, ◌+◌, ◌≤◌, false, cond, List, [], ◌∷◌, length, get_or, take, drop, ◌==◌, slice_index, slice_index_or}
use Rattle.plan.specs.Model.{Model}
use Rattle.drawing.specs.declared.state.State.{State}
use Rattle.drawing.specs.declared.steps.Span.{Span}
use Rattle.drawing.specs.declared.steps.StepTable.{StepTable}

-- a state that does not exist
abbrev pub blank : State
blank = record { marked = false; codes = 0 ∷ 0 ∷ 0 ∷ 0 ∷ [] }

-- no steps
abbrev pub no_span : Span
no_span = record { first = 0; count = 0 }

abbrev pub span_of : StepTable → ℕ → Span
span_of t s = slice_index_or t.spans s no_span

-- the steps of a state: so many targets, from the first one on
abbrev pub steps_of : StepTable → ℕ → List ℕ
steps_of t s = take (span_of t s).count (drop (span_of t s).first t.targets)

-- each state's targets lie in the list of targets
abbrev pub SpansFit : StepTable → Type 0
SpansFit t = (s : ℕ) → (span_of t s).first + (span_of t s).count ≤ length t.targets

-- the plan that is kept
abbrev pub stored_plan : ℕ → ℕ → ℕ → List State → StepTable → Model
stored_plan n start c rows steps = record {
  states = n;
  start = start;
  channels = c;
  mark = λ s. (get_or rows s blank).marked;
  code = λ s k. slice_index (get_or rows s blank).codes k;
  steps = λ s. steps_of steps s;
}

-- a span that takes in one more target, which stands at this place
abbrev pub extended : Span → ℕ → Span
extended span place = record {
  first = cond (span.count == 0) place span.first;
  count = span.count + 1;
}
