-- What the program prints: a list of lines, from the bytes that it reads.
use Rattle.std.specs.Prelude.{◌≡◌, ℕ, Bool, true, false, cond, ◌&&◌, List, [], ◌∷◌, ◌++◌, length, drop, MatchBool, ◌==◌, slice_index_or}
use Rattle.plan.specs.declared.answer.Answer.{Answer}
use Rattle.plan.specs.Answers.{numbers, success}
use Rattle.plan.specs.Model.{Model}
use Rattle.drawing.specs.Layout.{drawing_answer, drawing_plan}
use Rattle.table.specs.Layout.{table_answer, table_plan}
use Rattle.join.specs.Joining.{joined}
use Rattle.join.specs.Answers.{join_answer}
use Rattle.vet.specs.Findings.{Finds}
use Rattle.rules.specs.Rules.{exact_says}
use Rattle.pairs.specs.Pairs.{Pairs, no_pairs}
use Rattle.comparison.specs.declared.calls.Call.{Call}
use Rattle.comparison.specs.declared.calls.Call.TheVariants.{Add as AddCall, Strike as StrikeCall, Load as LoadCall}
use Rattle.comparison.specs.Settings.{Setting}
use Rattle.comparison.specs.Histories.{History, no_answer}
use Rattle.commands.specs.declared.command.Command.{Command}
use Rattle.commands.specs.declared.command.Command.TheVariants.{Add, Strike, Load, Unknown}
use Rattle.commands.specs.Commands.{commands_of}
use Rattle.session.specs.declared.line.Line.{Line}

abbrev pub line : ℕ → Answer → Line
line letter answer = record { letter = letter; answer = answer }

-- Opening the folder: a line D for the drawing, L for the logger's table and G for the gauge; a refusal is the last.
-- The gauge's answer beside the logger's table m: zeros where the gauge's file is empty, so that there is no gauge; else the
-- file's refusal, or what joining the two tables answers.
abbrev pub gauge_answer : Model → List ℕ → Answer
gauge_answer m gauge =
    cond (length gauge == 0) (success 0 0)
    (cond ((table_answer gauge).number == 0) (join_answer m (table_plan gauge)) (table_answer gauge))

abbrev pub succeeds : Answer → Bool
succeeds answer = answer.number == 0

abbrev pub opening_lines : List ℕ → List ℕ → List ℕ → List Line
opening_lines drawing table gauge =
    line 68 (drawing_answer drawing)
    ∷ cond (succeeds (drawing_answer drawing))
    (line 76 (table_answer table)
    ∷ cond (succeeds (table_answer table)) (line 71 (gauge_answer (table_plan table) gauge) ∷ []) [])
    []

-- nothing was refused
abbrev pub opens : List ℕ → List ℕ → List ℕ → Bool
opens drawing table gauge =
    succeeds (drawing_answer drawing) && succeeds (table_answer table) && succeeds (gauge_answer (table_plan table) gauge)

-- what the drawing is compared with: the logger's table, or that joined with the gauge's
abbrev pub second_plan : List ℕ → List ℕ → Model
second_plan table gauge = cond (length gauge == 0) (table_plan table) (joined (table_plan table) (table_plan gauge))

-- these two plans are compared under Exact, with findings that are true of them
pub record Compares (first second : Model) (setting : Setting) : Type 0 where
  pub first_is : setting.first ≡ first
  pub second_is : setting.second ≡ second
  pub rule_is : setting.says ≡ exact_says
  pub first_found : Finds setting.first setting.first_finding
  pub second_found : Finds setting.second setting.second_finding

-- the call that a command makes; `p` loads the pair file
abbrev pub Makes : List ℕ → Command → Call → Type 0
Makes file (Add s t) call = call ≡ AddCall s t
Makes file (Strike s t) call = call ≡ StrikeCall s t
Makes file Load (LoadCall lent) = lent.now ≡ file
Makes file Load (AddCall s t) = ⊥
Makes file Load (StrikeCall s t) = ⊥
Makes file Unknown call = ⊥

-- the calls of a list of commands, in their order; a line that is no command makes none
abbrev pub MakeCalls : List ℕ → List Command → List Call → Type 0
MakeCalls file [] calls = calls ≡ []
MakeCalls file (Unknown ∷ commands) calls = MakeCalls file commands calls
MakeCalls file (Add s t ∷ commands) [] = ⊥
MakeCalls file (Add s t ∷ commands) (call ∷ calls) = Makes file (Add s t) call × MakeCalls file commands calls
MakeCalls file (Strike s t ∷ commands) [] = ⊥
MakeCalls file (Strike s t ∷ commands) (call ∷ calls) = Makes file (Strike s t) call × MakeCalls file commands calls
MakeCalls file (Load ∷ commands) [] = ⊥
MakeCalls file (Load ∷ commands) (call ∷ calls) = Makes file Load call × MakeCalls file commands calls

-- a line for each command: its letter and its call's answer, or '? 23' where it is none
abbrev pub unknown_line : Line
unknown_line = line 63 (numbers 23 0 0 0 0)

abbrev pub line_of : Command → Answer → Line
line_of (Add s t) answer = line 97 answer
line_of (Strike s t) answer = line 115 answer
line_of Load answer = line 112 answer
line_of Unknown answer = unknown_line

-- does the command make a call
abbrev pub is_call : Command → Bool
is_call (Add s t) = true
is_call (Strike s t) = true
is_call Load = true
is_call Unknown = false

-- each call takes the next answer
abbrev pub command_lines : List Command → List Answer → List Line
command_lines [] answers = []
command_lines (command ∷ commands) answers =
    line_of command (slice_index_or answers 0 no_answer) ∷ command_lines commands (cond (is_call command) (drop 1 answers) answers)

-- the answers to the commands: those of the history of their calls on a new comparison of the two plans
pub record Answered (first second : Model) (file : List ℕ) (commands : List Command) (answers : List Answer) : Type 0 where
  pub setting : Setting
  pub compares : Compares first second setting
  pub calls : List Call
  pub made : MakeCalls file commands calls
  pub after : ℕ → Pairs
  pub history : History setting no_pairs calls answers after

-- What the program prints. Where something was refused, the opening lines; else these, and a line for each line of the input.
abbrev pub Prints : List ℕ → List ℕ → List ℕ → List ℕ → List ℕ → List Line → Type 0
Prints drawing table gauge file input lines =
    MatchBool (opens drawing table gauge)
    ((answers : List Answer) × Answered (drawing_plan drawing) (second_plan table gauge) file (commands_of input) answers
    × (lines ≡ opening_lines drawing table gauge ++ command_lines (commands_of input) answers))
    (lines ≡ opening_lines drawing table gauge)
