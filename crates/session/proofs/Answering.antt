-- The answers to the commands are those of a history.
use Rattle.std.proofs.Common.{◌≡◌, ℕ, ◌≤◌, List, length, Ok, Err, Result, ◌∙◌, arith, MatchResult}
use Rattle.plan.specs.declared.answer.Answer.{Answer}
use Rattle.plan.specs.Model.{Model}
use Rattle.pairs.specs.Pairs.{Pairs, no_pairs}
use Rattle.comparison.specs.declared.calls.Call.{Call}
use Rattle.plan.specs.declared.answer.TooShort.{TooShort}
use Rattle.comparison.specs.Settings.{Setting}
use Rattle.comparison.specs.Histories.{Ran, NotRun}
use Rattle.commands.specs.declared.command.Command.{Command}
use Rattle.session.specs.Session.{Compares, MakeCalls, Answered}

pub answered_from : {U : Type 0} (first second : Model) (file : List ℕ) (commands : List Command) (setting : Setting) (begin end : Pairs) (calls : List Call) (before written : List Answer)
    (r : Result U TooShort) → Compares first second setting → begin ≡ no_pairs → MakeCalls file commands calls → length calls ≤ length before
    → MatchResult r (λ _. Ran setting begin calls before written end) (λ e. NotRun begin calls before written end e.needed)
    → Answered first second file commands written
answered_from first second file commands setting begin end calls before written (Ok u) compares none made places ran = record {
  setting = setting;
  compares = compares;
  calls = calls;
  made = made;
  after = ran.history.0;
  history = record { begins = ran.history.1.begins ∙ none; each = ran.history.1.each };
}
answered_from first second file commands setting begin end calls before written (Err e) compares none made places not-run =
    absurd (omega (arith, not-run.too_few))
