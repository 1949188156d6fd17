-- Histories of calls: what each call of a list answers, and the pairs that stand after it.
use Rattle.std.specs.Prelude.{◌≡◌, ℕ, ◌+◌, ◌<◌, ◌≤◌, List, length, drop, slice_index_or}
use Rattle.plan.specs.declared.answer.Answer.{Answer}
use Rattle.plan.specs.Answers.{numbers}
use Rattle.pairs.specs.Pairs.{Pairs}
use Rattle.comparison.specs.declared.calls.Call.{Call}
use Rattle.comparison.specs.declared.calls.Call.TheVariants.{Add, Strike, Load}
use Rattle.comparison.specs.Settings.{Setting}
use Rattle.comparison.specs.Calls.{change_result, change_numbers, after_add, after_strike, load_answer, after_load}

-- On these pairs the call answers so, and leaves those pairs.
abbrev pub Does : Setting → Pairs → Call → Answer → Pairs → Type 0
Does setting pairs (Add s t) answer left = (answer ≡ change_numbers (change_result setting pairs s t)) × (left ≡ after_add setting pairs s t)
Does setting pairs (Strike s t) answer left = (answer ≡ change_numbers (change_result setting pairs s t)) × (left ≡ after_strike setting pairs s t)
Does setting pairs (Load file) answer left = (answer ≡ load_answer setting file.now) × (left ≡ after_load setting pairs file.now)

-- what stands behind the end of a list, and is never looked at
abbrev pub no_call : Call
no_call = Add 0 0

abbrev pub no_answer : Answer
no_answer = numbers 0 0 0 0 0

-- A history of a list of calls: `after i` are the pairs that stand after the first i calls, and each call answers and leaves
-- what its definition derives from the pairs before it.
pub record History (setting : Setting) (begin : Pairs) (calls : List Call) (answers : List Answer) (after : ℕ → Pairs) : Type 0 where
  pub begins : after 0 ≡ begin
  pub each : (i : ℕ) → i < length calls → Does setting (after i) (slice_index_or calls i no_call) (slice_index_or answers i no_answer) (after (i + 1))

-- there is a history with these calls and answers that begins and ends with these pairs
abbrev pub HasHistory : Setting → Pairs → List Call → List Answer → Pairs → Type 0
HasHistory setting begin calls answers end = (after : ℕ → Pairs) × History setting begin calls answers after × (after (length calls) ≡ end)

-- any two histories of the same calls from the same pairs are equal: the same answers, and the same pairs after each call
abbrev pub OneHistory : Setting → Type 0
OneHistory setting =
    (begin : Pairs) (calls : List Call) (answers others : List Answer) (after later : ℕ → Pairs)
    → History setting begin calls answers after → History setting begin calls others later
    → ((i : ℕ) → i ≤ length calls → after i ≡ later i)
    × ((i : ℕ) → i < length calls → slice_index_or answers i no_answer ≡ slice_index_or others i no_answer)

-- A list was run: there was a place for each answer; there is a history of just these calls from what stood at first to what
-- stands at last, with the answers that were written; and the answers behind the list's length are untouched.
pub record Ran (setting : Setting) (begin : Pairs) (calls : List Call) (before written : List Answer) (end : Pairs) : Type 0 where
  pub places : length calls ≤ length before
  pub history : HasHistory setting begin calls written end
  pub behind : drop (length calls) written ≡ drop (length calls) before

-- A list was not run: there are fewer places than calls, which is told, and nothing changed.
pub record NotRun (begin : Pairs) (calls : List Call) (before written : List Answer) (end : Pairs) (needed : ℕ) : Type 0 where
  pub too_few : length before < length calls
  pub tells : needed ≡ length calls
  pub answers_kept : written ≡ before
  pub pairs_kept : end ≡ begin

-- the first i calls of a list are made
pub record Running (setting : Setting) (begin : Pairs) (calls : List Call) (before written : List Answer) (end : Pairs) (i : ℕ) : Type 0 where
  pub long : length written ≡ length before
  pub so_far : (after : ℕ → Pairs) × (after 0 ≡ begin) × (after i ≡ end)
      × ((j : ℕ) → j < i → Does setting (after j) (slice_index_or calls j no_call) (slice_index_or written j no_answer) (after (j + 1)))
  pub not_yet : drop i written ≡ drop i before
