-- From commands to calls and lines, one command more at the end.
use Rattle.std.proofs.Common.{◌≡◌, ℕ, ◌+◌, ◌<◌, ◌≤◌, cond, List, [], ◌∷◌, ◌++◌, length, get_or, take, drop, set, sym, refl, ap, ◌∙◌, subst, append_assoc, add-one, arith}
use Rattle.std.proofs.Math.Seq.{drop-cons}
use Rattle.std.proofs.lemmas.List.{append-nil, drop_all, take_more_set}
use Rattle.plan.specs.declared.answer.Answer.{Answer}
use Rattle.comparison.specs.declared.calls.Call.{Call}
use Rattle.comparison.specs.Histories.{no_answer}
use Rattle.commands.specs.declared.command.Command.{Command}
use Rattle.commands.specs.declared.command.Command.TheVariants.{Add, Strike, Load, Unknown}
use Rattle.session.specs.declared.line.Line.{Line}
use Rattle.session.specs.Session.{Makes, MakeCalls, line_of, is_call, command_lines}

-- the commands from place i on begin with command i
from_here : (commands : List Command) (i : ℕ) (d : Command) → i < length commands → drop i commands ≡ get_or commands i d ∷ drop (i + 1) commands
from_here commands i d low = drop-cons commands i d low ∙ ap (λ k. get_or commands i d ∷ drop k commands) (sym (add-one i))

module _ (file : List ℕ) where
  make_first : (command : Command) (call : Call) (commands : List Command) (calls : List Call) → Makes file command call → MakeCalls file commands calls → MakeCalls file (command ∷ commands) (call ∷ calls)
  make_first (Add s t) call commands calls makes made = (makes, made)
  make_first (Strike s t) call commands calls makes made = (makes, made)
  make_first Load call commands calls makes made = (makes, made)
  make_first Unknown call commands calls makes made = absurd makes

  -- with the calls of the commands that are still to come, the calls so far are those of all commands
  pub record MadeSoFar (commands : List Command) (i : ℕ) (calls : List Call) : Type 0 where
    pub with_rest : (rest : List Call) → MakeCalls file (drop i commands) rest → MakeCalls file commands (calls ++ rest)

  -- one command more that makes a call
  pub made_more : (commands : List Command) (calls : List Call) (i n : ℕ) (call : Call) (d : Command) → i < length commands → n < length calls
      → MadeSoFar commands i (take n calls) → Makes file (get_or commands i d) call
      → MadeSoFar commands (i + 1) (take (n + 1) (set calls n call))
  made_more commands calls i n call d low low' made makes =
      record {
        with_rest = λ rest these.
            let first : MakeCalls file (drop i commands) (call ∷ rest) = rw (from_here commands i d low) (make_first (get_or commands i d) call (drop (i + 1) commands) rest makes these) in
            rw (take_more_set calls n call low', append_assoc (take n calls) (call ∷ []) rest) (made.with_rest (call ∷ rest) first);
      }

  -- one command more that makes none
  pub none_more : (commands : List Command) (calls : List Call) (i : ℕ) (d : Command) → i < length commands
      → MadeSoFar commands i calls → get_or commands i d ≡ Unknown → MadeSoFar commands (i + 1) calls
  none_more commands calls i d low made unknown =
      record {
        with_rest = λ rest these.
            made.with_rest rest (subst (λ cs. MakeCalls file cs rest) (sym (from_here commands i d low ∙ ap (λ x. x ∷ drop (i + 1) commands) unknown)) these);
      }

  -- no command is still to come
  pub made_all : (commands : List Command) (i : ℕ) (calls : List Call) → length commands ≤ i → MadeSoFar commands i calls → MakeCalls file commands calls
  made_all commands i calls all made =
      subst (MakeCalls file commands) (append-nil calls)
      (made.with_rest [] (subst (λ cs. MakeCalls file cs []) (sym (drop_all i commands all)) refl))

-- what stands with the lines that are still to come is the same after one line more, which takes the next answer if its
-- command makes a call
pub lines_more : (commands : List Command) (left left' : List Answer) (lines : List Line) (at i : ℕ) (d : Command) (new : Line) → i < length commands → at + i < length lines
    → new ≡ line_of (get_or commands i d) (get_or left 0 no_answer) → left' ≡ cond (is_call (get_or commands i d)) (drop 1 left) left
    → take (at + (i + 1)) (set lines (at + i) new) ++ command_lines (drop (i + 1) commands) left' ≡ take (at + i) lines ++ command_lines (drop i commands) left
lines_more commands left left' lines at i d new low place is taken =
    let sum : at + (i + 1) ≡ at + i + 1 = omega arith in
    ap (λ n. take n (set lines (at + i) new) ++ command_lines (drop (i + 1) commands) left') sum
    ∙ ap (λ xs. xs ++ command_lines (drop (i + 1) commands) left') (take_more_set lines (at + i) new place)
    ∙ append_assoc (take (at + i) lines) (new ∷ []) (command_lines (drop (i + 1) commands) left')
    ∙ ap (λ x. take (at + i) lines ++ x ∷ command_lines (drop (i + 1) commands) left') is
    ∙ ap (λ xs. take (at + i) lines ++ line_of (get_or commands i d) (get_or left 0 no_answer) ∷ command_lines (drop (i + 1) commands) xs) taken
    ∙ ap (λ cs. take (at + i) lines ++ command_lines cs left) (sym (from_here commands i d low))

-- no line is still to come
pub lines_all : (commands : List Command) (left : List Answer) (lines : List Line) (at i : ℕ) → length commands ≤ i → i ≤ length commands
    → take (at + length commands) lines ≡ take (at + i) lines ++ command_lines (drop i commands) left
lines_all commands left lines at i all within =
    let here : length commands ≡ i = omega (arith, all, within) in
    ap (λ k. take (at + k) lines) here
    ∙ sym (append-nil (take (at + i) lines))
    ∙ ap (λ cs. take (at + i) lines ++ command_lines cs left) (sym (drop_all i commands all))
