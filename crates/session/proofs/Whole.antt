-- The whole of what is printed.
use Rattle.std.proofs.Common.{◌≡◌, ℕ, suc, ◌+◌, ◌<◌, ◌≤◌, Bool, true, false, cond, ◌&&◌, eqb, List, [], ◌∷◌, ◌++◌, length, take, set, MatchBool, sym, refl, ap, ◌∙◌, subst, arith}
use Rattle.std.proofs.lemmas.List.{take_more_set, length-map}
use Rattle.plan.specs.declared.answer.Answer.{Answer}
use Rattle.plan.specs.Model.{Model}
use Rattle.drawing.specs.Layout.{drawing_answer, drawing_plan}
use Rattle.commands.specs.declared.command.Command.{Command}
use Rattle.commands.specs.Lines.{lines_of, in_front}
use Rattle.commands.specs.Commands.{command_of, commands_of}
use Rattle.session.specs.declared.line.Line.{Line}
use Rattle.session.specs.declared.room.Room.{Room}
use Rattle.session.specs.Lent.{has_room_in}
use Rattle.session.specs.Session.{line, succeeds, opens, opening_lines, second_plan, Answered, command_lines, Prints}
use Rattle.session.specs.Running.{table_lines, tables_open, AllPrinted, RestPrinted}
use Rattle.std.proofs.lemmas.Bool.{and_parts, leb-true}
use Rattle.session.proofs.Rest.{shut_when}

-- there are no more lines than bytes
in_front_few : (c : ℕ) (pieces : List (List ℕ)) (n : ℕ) → length pieces ≤ n → length (in_front c pieces) ≤ suc n
in_front_few c [] n few = omega arith
in_front_few c (piece ∷ pieces) n few = omega (arith, few)

ended_few : (v : Bool) (c : ℕ) (pieces : List (List ℕ)) (n : ℕ) → length pieces ≤ n → length (cond v ([] ∷ pieces) (in_front c pieces)) ≤ suc n
ended_few true c pieces n few = omega (arith, few)
ended_few false c pieces n few = in_front_few c pieces n few

lines_few : (input : List ℕ) → length (lines_of input) ≤ length input
lines_few [] = omega arith
lines_few (c ∷ rest) = ended_few (eqb c 10) c (lines_of rest) (length rest) (lines_few rest)

pub commands_few : (input : List ℕ) → length (commands_of input) ≤ length input
commands_few input = omega (arith, length-map (lines_of input) command_of, lines_few input)

when_like : (v w : Bool) (P Q P' Q' : Type 0) → w ≡ v → (P → P') → (Q → Q') → MatchBool v P Q → MatchBool w P' Q'
when_like true w P Q P' Q' is f g h = subst (λ x. MatchBool x P' Q') (sym is) (f h)
when_like false w P Q P' Q' is f g h = subst (λ x. MatchBool x P' Q') (sym is) (g h)

first_passes : (v l g : Bool) → v ≡ true → ((v && l) && g) ≡ (l && g)
first_passes true l g is = refl
first_passes false l g is = absurd (let z : ◌≡◌ {A = ℕ} 0 1 = cc in omega arith)

first_fails : (v l g : Bool) → v ≡ false → ((v && l) && g) ≡ false
first_fails false l g is = refl
first_fails true l g is = absurd (let z : ◌≡◌ {A = ℕ} 0 1 = cc in omega arith)

module _ (drawing table gauge file input : List ℕ) (lines : List Line) (room : 0 < length lines) (answer : Answer) (is : answer ≡ drawing_answer drawing) where
  one_line : take 1 (set lines 0 (line 68 answer)) ≡ line 68 (drawing_answer drawing) ∷ []
  one_line = take_more_set lines 0 (line 68 answer) room ∙ ap (λ a. line 68 a ∷ []) is

  -- the drawing is refused
  pub print_refused : succeeds answer ≡ false → Prints drawing table gauge file input (take 1 (set lines 0 (line 68 answer)))
  print_refused refused =
      let fails : succeeds (drawing_answer drawing) ≡ false = ap succeeds (sym is) ∙ refused in
      let all : take 1 (set lines 0 (line 68 answer)) ≡ opening_lines drawing table gauge =
      one_line ∙ ap (λ v. line 68 (drawing_answer drawing) ∷ cond v (table_lines table gauge) []) (sym fails) in
      shut_when (opens drawing table gauge)
      ((answers : List Answer) × Answered (drawing_plan drawing) (second_plan table gauge) file (commands_of input) answers
      × (take 1 (set lines 0 (line 68 answer)) ≡ opening_lines drawing table gauge ++ command_lines (commands_of input) answers))
      (take 1 (set lines 0 (line 68 answer)) ≡ opening_lines drawing table gauge)
      (first_fails (succeeds (drawing_answer drawing)) _ _ fails) all

  -- it is opened
  pub print_rest : (m : Model) (commands : List Command) (after : List Line) → succeeds answer ≡ true → m ≡ drawing_plan drawing → commands ≡ commands_of input
      → RestPrinted m table gauge file commands (take 1 (set lines 0 (line 68 answer))) after → Prints drawing table gauge file input after
  print_rest m commands after opened meaning-is commands-is rest =
      let passes : succeeds (drawing_answer drawing) ≡ true = ap succeeds (sym is) ∙ opened in
      let opening : line 68 (drawing_answer drawing) ∷ table_lines table gauge ≡ opening_lines drawing table gauge =
      ap (λ v. line 68 (drawing_answer drawing) ∷ cond v (table_lines table gauge) []) (sym passes) in
      when_like (tables_open table gauge) (opens drawing table gauge)
      (AllPrinted m table gauge file commands (take 1 (set lines 0 (line 68 answer))) after)
      (after ≡ take 1 (set lines 0 (line 68 answer)) ++ table_lines table gauge)
      ((answers : List Answer) × Answered (drawing_plan drawing) (second_plan table gauge) file (commands_of input) answers
      × (after ≡ opening_lines drawing table gauge ++ command_lines (commands_of input) answers))
      (after ≡ opening_lines drawing table gauge)
      (first_passes (succeeds (drawing_answer drawing)) _ _ passes)
      (λ h. (
        h.0,
        subst (λ x. Answered x (second_plan table gauge) file (commands_of input) h.0) meaning-is
            (subst (λ cs. Answered m (second_plan table gauge) file cs h.0) commands-is h.1),
        h.2
            ∙ ap (λ xs. xs ++ (table_lines table gauge ++ command_lines commands h.0)) one_line
            ∙ ap (λ xs. xs ++ command_lines commands h.0) opening
            ∙ ap (λ cs. opening_lines drawing table gauge ++ command_lines cs h.0) commands-is,
      ))
      (λ h. h ∙ ap (λ xs. xs ++ table_lines table gauge) one_line ∙ opening)
      rest

-- there is room: each slice is long enough
pub room_parts : (input calls : ℕ) (room : Room) → has_room_in input calls room ≡ true
    → (input ≤ length room.commands.now) × (input ≤ calls) × (input ≤ length room.answers.now) × (input + 3 ≤ length room.lines.now)
room_parts input calls room e =
    let all = and_parts _ _ e in
    let three = and_parts _ _ all.0 in
    let two = and_parts _ _ three.0 in
    (leb-true input _ two.0, leb-true input calls two.1, leb-true input _ three.1, leb-true (input + 3) _ all.1)
