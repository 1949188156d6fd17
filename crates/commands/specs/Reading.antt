-- What the parts of reading commands give.
use Rattle.std.specs.Prelude.{◌≡◌, ℕ, ◌+◌, ◌<◌, ◌≤◌, Bool, cond, ◌&&◌, List, [], ◌++◌, length, take, drop, Some, None, Option, ◌==◌, slice_index_or}
use Rattle.commands.specs.declared.command.Command.{Command}
use Rattle.commands.specs.declared.command.Command.TheVariants.{Add, Strike, Load, Unknown}
use Rattle.commands.specs.Commands.{all_digits, read_on, is_number, number_in, commands_of}

-- the number that a field says, if it is one
abbrev pub number_of : List ℕ → Option ℕ
number_of field = cond (is_number field) (Some (number_in field)) None

-- the numbers of three fields of which the last two are numbers
abbrev pub numbers_in : List (List ℕ) → Option (ℕ × ℕ)
numbers_in fields =
    cond (length fields == 3 && is_number (slice_index_or fields 1 []) && is_number (slice_index_or fields 2 [])) (Some (number_in (slice_index_or fields 1 []), number_in (slice_index_or fields 2 []))) None

-- a field is read up to place i, and this is the number so far
pub record NumberSoFar (field : List ℕ) (i number : ℕ) : Type 0 where
  pub digits_left : all_digits (drop i field) ≡ all_digits field
  pub number_left : read_on number (drop i field) ≡ number_in field
  pub none_read : i ≤ 0 → number ≡ 0
  pub one_read : i ≤ 1 → number ≤ 9
  pub two_read : i ≤ 2 → number ≤ 99

-- the command that is made of two numbers, if they are there
abbrev pub made_of : (ℕ → ℕ → Command) → Option (ℕ × ℕ) → Command
made_of make None = Unknown
made_of make (Some numbers) = make numbers.0 numbers.1

-- the command of a letter, from the two numbers behind it, if they are there, and from whether it stands alone
abbrev pub command_by : ℕ → Option (ℕ × ℕ) → Bool → Command
command_by letter numbers alone =
    cond (letter == 97) (made_of Add numbers) (cond (letter == 115) (made_of Strike numbers) (cond (letter == 112 && alone) Load Unknown))

-- the input is read up to the rest, and its first commands stand; what lies behind them is untouched
pub record SoFar (input rest : List ℕ) (was : List Command) (count : ℕ) (became : List Command) : Type 0 where
  pub few : count + length rest ≤ length input
  pub left_over : take count became ++ commands_of rest ≡ commands_of input
  pub as_long : length became ≡ length was
  pub behind : drop count became ≡ drop count was

-- there might not be a place for each line, which is told with the places needed, and nothing is touched
pub record Refused (input : List ℕ) (was became : List Command) (needed : ℕ) : Type 0 where
  pub too_short : length was < length input
  pub tells : needed ≡ length input
  pub untouched : became ≡ was

-- n commands were read, those of the input; what lies behind them is untouched
pub record Read (input : List ℕ) (was became : List Command) (n : ℕ) : Type 0 where
  pub long_enough : length input ≤ length was
  pub counted : n ≡ length (commands_of input)
  pub commands_read : take n became ≡ commands_of input
  pub same_length : length became ≡ length was
  pub rest_kept : drop n became ≡ drop n was
