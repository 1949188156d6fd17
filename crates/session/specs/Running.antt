-- What a session writes.
use Rattle.std.specs.Prelude.{◌≡◌, ℕ, ◌+◌, ◌≤◌, Bool, true, false, cond, ◌&&◌, List, [], ◌∷◌, ◌++◌, length, take, MatchBool, nat_le}
use Rattle.plan.specs.declared.answer.Answer.{Answer}
use Rattle.plan.specs.Model.{Model}
use Rattle.table.specs.Layout.{table_answer, table_plan}
use Rattle.commands.specs.declared.command.Command.{Command}
use Rattle.session.specs.declared.line.Line.{Line}
use Rattle.session.specs.declared.room.Files.{Files}
use Rattle.session.specs.Session.{line, succeeds, gauge_answer, second_plan, Answered, command_lines, Prints}

-- the opening lines behind the line D of a drawing that was opened
abbrev pub table_lines : List ℕ → List ℕ → List Line
table_lines table gauge =
    line 76 (table_answer table) ∷ cond (succeeds (table_answer table)) (line 71 (gauge_answer (table_plan table) gauge) ∷ []) []

abbrev pub tables_open : List ℕ → List ℕ → Bool
tables_open table gauge = succeeds (table_answer table) && succeeds (gauge_answer (table_plan table) gauge)

-- behind the lines that stand already: the opening lines, and a line for each command
abbrev pub AllPrinted : Model → List ℕ → List ℕ → List ℕ → List Command → List Line → List Line → Type 0
AllPrinted drawing table gauge file commands before lines =
    (answers : List Answer) × Answered drawing (second_plan table gauge) file commands answers
    × (lines ≡ before ++ (table_lines table gauge ++ command_lines commands answers))

-- the lines behind those that stand already, for a drawing that was opened
abbrev pub RestPrinted : Model → List ℕ → List ℕ → List ℕ → List Command → List Line → List Line → Type 0
RestPrinted drawing table gauge file commands before lines =
    MatchBool (tables_open table gauge) (AllPrinted drawing table gauge file commands before lines) (lines ≡ before ++ table_lines table gauge)

-- three slices of these lengths, and one for lines, have room for an input of this length
abbrev pub has_room : ℕ → ℕ → ℕ → ℕ → ℕ → Bool
has_room input commands calls answers lines = nat_le input commands && nat_le input calls && nat_le input answers && nat_le (input + 3) lines

-- there was room, and the first n lines are what the program prints
pub record Printed (files : Files) (input : List ℕ) (room : Bool) (lines : List Line) (n : ℕ) : Type 0 where
  pub enough : room ≡ true
  pub within : n ≤ length lines
  pub prints : Prints files.drawing.now files.table.now files.gauge.now files.pairs.now input (take n lines)

-- there is no room, which is told with the length of the input, and nothing was written into the slices of commands, answers
-- and lines
pub record NoRoom (input : List ℕ) (room : Bool) (commands commands' : List Command) (answers answers' : List Answer) (lines lines' : List Line) (needed : ℕ) : Type 0 where
  pub too_short : room ≡ false
  pub tells : needed ≡ length input
  pub commands_kept : commands' ≡ commands
  pub answers_kept : answers' ≡ answers
  pub lines_kept : lines' ≡ lines
