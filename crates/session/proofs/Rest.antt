-- The lines behind the line D of a drawing that was opened.
use Rattle.std.proofs.Common.{◌≡◌, ℕ, ◌+◌, ◌<◌, Bool, true, false, cond, List, [], ◌∷◌, ◌++◌, length, take, set, MatchBool, sym, refl, ap, ◌∙◌, subst, append_assoc, arith}
use Rattle.std.proofs.lemmas.List.{take_more_set, length-set}
use Rattle.std.proofs.lemmas.Bool.{and_from, and_left, and_right, both_ways}
use Rattle.plan.specs.declared.answer.Answer.{Answer}
use Rattle.plan.specs.Model.{Model}
use Rattle.table.specs.Layout.{table_answer, table_plan}
use Rattle.commands.specs.declared.command.Command.{Command}
use Rattle.session.specs.declared.line.Line.{Line}
use Rattle.session.specs.Session.{line, succeeds, gauge_answer, second_plan, Answered, command_lines}
use Rattle.session.specs.Running.{table_lines, tables_open, AllPrinted, RestPrinted}

pub open_when : (v : Bool) (P Q : Type 0) → v ≡ true → P → MatchBool v P Q
open_when true P Q is p = p
open_when false P Q is p = absurd (both_ways false refl is)

pub shut_when : (v : Bool) (P Q : Type 0) → v ≡ false → Q → MatchBool v P Q
shut_when true P Q is q = absurd (both_ways true is refl)
shut_when false P Q is q = q

module _ (m : Model) (table gauge file : List ℕ) (commands : List Command) (lines : List Line) (room : 2 < length lines) where
  -- the logger's table is refused
  pub rest_no_table : (answer : Answer) → answer ≡ table_answer table → succeeds answer ≡ false
      → RestPrinted m table gauge file commands (take 1 lines) (take 2 (set lines 1 (line 76 answer)))
  rest_no_table answer is refused =
      let no_table : succeeds (table_answer table) ≡ false = ap succeeds (sym is) ∙ refused in
      let shut : tables_open table gauge ≡ false = and_left (succeeds (table_answer table)) _ no_table in
      let written : take 2 (set lines 1 (line 76 answer)) ≡ take 1 lines ++ table_lines table gauge =
      take_more_set lines 1 (line 76 answer) (omega arith)
      ∙ ap (λ a. take 1 lines ++ line 76 a ∷ []) is
      ∙ ap (λ v. take 1 lines ++ line 76 (table_answer table) ∷ cond v (line 71 (gauge_answer (table_plan table) gauge) ∷ []) []) (sym no_table) in
      shut_when (tables_open table gauge) (AllPrinted m table gauge file commands (take 1 lines) (take 2 (set lines 1 (line 76 answer)))) _ shut written

  -- both lines are written
  both_written : (answer last : Answer) → answer ≡ table_answer table → succeeds answer ≡ true → last ≡ gauge_answer (table_plan table) gauge
      → take 3 (set (set lines 1 (line 76 answer)) 2 (line 71 last)) ≡ take 1 lines ++ table_lines table gauge
  both_written answer last is passed last-is =
      let place : 2 < length (set lines 1 (line 76 answer)) = omega (arith, length-set lines 1 (line 76 answer)) in
      take_more_set (set lines 1 (line 76 answer)) 2 (line 71 last) place
      ∙ ap (λ xs. xs ++ line 71 last ∷ []) (take_more_set lines 1 (line 76 answer) (omega arith))
      ∙ append_assoc (take 1 lines) (line 76 answer ∷ []) (line 71 last ∷ [])
      ∙ ap (λ a. take 1 lines ++ line 76 a ∷ line 71 last ∷ []) is
      ∙ ap (λ a. take 1 lines ++ line 76 (table_answer table) ∷ line 71 a ∷ []) last-is
      ∙ ap (λ v. take 1 lines ++ line 76 (table_answer table) ∷ cond v (line 71 (gauge_answer (table_plan table) gauge) ∷ []) []) (sym (ap succeeds (sym is) ∙ passed))

  -- the gauge is refused
  pub rest_no_gauge : (answer last : Answer) → answer ≡ table_answer table → succeeds answer ≡ true → last ≡ gauge_answer (table_plan table) gauge → succeeds last ≡ false
      → RestPrinted m table gauge file commands (take 1 lines) (take 3 (set (set lines 1 (line 76 answer)) 2 (line 71 last)))
  rest_no_gauge answer last is passed last-is refused =
      let shut : tables_open table gauge ≡ false = and_right (succeeds (table_answer table)) _ (ap succeeds (sym last-is) ∙ refused) in
      shut_when (tables_open table gauge) (AllPrinted m table gauge file commands (take 1 lines) (take 3 (set (set lines 1 (line 76 answer)) 2 (line 71 last)))) _ shut (both_written answer last is passed last-is)

  -- nothing is refused: the commands' lines follow
  pub rest_open : (answer last : Answer) (second : Model) (answers : List Answer) (after : List Line) → answer ≡ table_answer table → succeeds answer ≡ true
      → last ≡ gauge_answer (table_plan table) gauge → succeeds last ≡ true → second ≡ second_plan table gauge
      → Answered m second file commands answers
      → take (3 + length commands) after ≡ take 3 (set (set lines 1 (line 76 answer)) 2 (line 71 last)) ++ command_lines commands answers
      → RestPrinted m table gauge file commands (take 1 lines) (take (3 + length commands) after)
  rest_open answer last second answers after is passed last-is last-passed second_is answered written =
      let open_tables : tables_open table gauge ≡ true =
      and_from _ _ (ap succeeds (sym is) ∙ passed) (ap succeeds (sym last-is) ∙ last-passed) in
      let all : take (3 + length commands) after ≡ take 1 lines ++ (table_lines table gauge ++ command_lines commands answers) =
      written
      ∙ ap (λ xs. xs ++ command_lines commands answers) (both_written answer last is passed last-is)
      ∙ append_assoc (take 1 lines) (table_lines table gauge) (command_lines commands answers) in
      open_when (tables_open table gauge) (AllPrinted m table gauge file commands (take 1 lines) (take (3 + length commands) after)) (take (3 + length commands) after ≡ take 1 lines ++ table_lines table gauge) open_tables
      (answers, subst (λ x. Answered m x file commands answers) second_is answered, all)
