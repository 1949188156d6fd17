-- How a line is read as a command.
use Rattle.std.specs.Prelude.{ℕ, ◌+◌, ◌-◌, ◌*◌, Bool, true, cond, ◌&&◌, List, [], ◌∷◌, map, length, ◌==◌, nat_le, slice_index, slice_index_or}
use Rattle.commands.specs.declared.command.Command.{Command}
use Rattle.commands.specs.declared.command.Command.TheVariants.{Add, Strike, Load, Unknown}
use Rattle.commands.specs.Lines.{lines_of, fields_of}

-- a decimal digit, '0' to '9'
abbrev pub is_digit : ℕ → Bool
is_digit c = nat_le 48 c && nat_le c 57

abbrev pub all_digits : List ℕ → Bool
all_digits [] = true
all_digits (c ∷ rest) = is_digit c && all_digits rest

-- a number of 1 to 3 digits; leading zeros are fine
abbrev pub is_number : List ℕ → Bool
is_number field = nat_le 1 (length field) && nat_le (length field) 3 && all_digits field

-- the number that digits say, going on from what was read so far
abbrev pub read_on : ℕ → List ℕ → ℕ
read_on n [] = n
read_on n (c ∷ rest) = read_on (n * 10 + (c - 48)) rest

abbrev pub number_in : List ℕ → ℕ
number_in field = read_on 0 field

-- the field is this one letter
abbrev pub is_letter : ℕ → List ℕ → Bool
is_letter c field = length field == 1 && slice_index field 0 == c

-- three fields: this letter and two numbers
abbrev pub is_pair_line : ℕ → List (List ℕ) → Bool
is_pair_line c fields =
    (length fields == 3) && is_letter c (slice_index_or fields 0 []) && is_number (slice_index_or fields 1 []) && is_number (slice_index_or fields 2 [])

-- 'a' and two numbers adds a pair, 's' and two numbers strikes one, 'p' alone loads the pair file; any other line is unknown
abbrev pub command_in : List (List ℕ) → Command
command_in fields =
    cond (is_pair_line 97 fields) (Add (number_in (slice_index_or fields 1 [])) (number_in (slice_index_or fields 2 [])))
    (cond (is_pair_line 115 fields) (Strike (number_in (slice_index_or fields 1 [])) (number_in (slice_index_or fields 2 [])))
    (cond (length fields == 1 && is_letter 112 (slice_index_or fields 0 [])) Load Unknown))

abbrev pub command_of : List ℕ → Command
command_of line = command_in (fields_of line)

-- the commands of the input, one for each line
abbrev pub commands_of : List ℕ → List Command
commands_of input = map command_of (lines_of input)
