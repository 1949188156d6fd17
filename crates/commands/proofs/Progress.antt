-- Input is read line by line.
use Rattle.std.proofs.Common.{◌≡◌, ℕ, ◌+◌, ◌<◌, ◌≤◌, List, [], ◌∷◌, ◌++◌, map, length, take, drop, set, sym, ap, ◌∙◌, append_assoc, append-nil, arith}
use Rattle.std.proofs.lemmas.List.{take_more_set, drop-drop, drop-set-lt, length-set, length-take-le}
use Rattle.commands.specs.declared.command.Command.{Command}
use Rattle.commands.specs.Lines.{lines_of}
use Rattle.commands.specs.Commands.{command_of, commands_of}
use Rattle.commands.specs.Reading.{SoFar, Read}

-- one line more
pub progress_more :
    (input rest left : List ℕ) (was : List Command) (count : ℕ) (became : List Command) (line : List ℕ) (command : Command) → SoFar input rest was count became
    → lines_of rest ≡ line ∷ lines_of left → length left < length rest → length input ≤ length was → command ≡ command_of line
    → SoFar input left was (count + 1) (set became count command)
progress_more input rest left was count became line command so_far split fewer places says =
    let within : count < length became = omega (arith, so_far.as_long, so_far.few) in
    let after = commands_of left in
    record {
      few = omega (arith, so_far.few);
      left_over =
          ap (λ xs. xs ++ after) (take_more_set became count command within)
          ∙ append_assoc (take count became) (command ∷ []) after
          ∙ ap (λ x. take count became ++ (x ∷ after)) says
          ∙ ap (λ xs. take count became ++ xs) (sym (ap (map command_of) split))
          ∙ so_far.left_over;
      as_long = length-set became count command ∙ so_far.as_long;
      behind =
          drop-set-lt (count + 1) became count command (omega arith)
          ∙ sym (drop-drop 1 count became)
          ∙ ap (drop 1) so_far.behind
          ∙ drop-drop 1 count was;
    }

-- all lines are read
pub progress_all :
    (input rest : List ℕ) (was : List Command) (count : ℕ) (became : List Command) → SoFar input rest was count became → rest ≡ []
    → length input ≤ length was → Read input was became count
progress_all input rest was count became so_far none places =
    let all : take count became ≡ commands_of input =
    sym (append-nil (take count became)) ∙ ap (λ xs. take count became ++ commands_of xs) (sym none) ∙ so_far.left_over in
    record {
      long_enough = places;
      counted = sym (length-take-le count became (omega (arith, so_far.as_long, so_far.few))) ∙ ap length all;
      commands_read = all;
      same_length = so_far.as_long;
      rest_kept = so_far.behind;
    }
