-- What each call answers, and which pairs stand after it, from the setting and the pairs that stood before.
use Rattle.std.specs.Prelude.{ℕ, Bool, cond, List, is_some, Some, None, Ok, Err, Option, Result, ◌==◌, nat_lt}
use Rattle.plan.specs.declared.answer.Answer.{Answer}
use Rattle.plan.specs.declared.answer.Side.TheVariants.{First, Second}
use Rattle.plan.specs.Answers.{numbers, success, side_number, counted_numbers, changed_numbers}
use Rattle.layout.specs.Lowest.{lowest}
use Rattle.layout.specs.Refusals.{refusal_numbers}
use Rattle.pairs.specs.Pairs.{Pairs, with_pair, without_pair}
use Rattle.pairs.specs.PairFile.{count_in, first_in, second_in, pairs_in, file_asked}
use Rattle.comparison.specs.declared.refusal.PairRefusal.{PairRefusal}
use Rattle.comparison.specs.declared.refusal.PairRefusal.TheVariants.{NoState, Unmarked}
use Rattle.comparison.specs.declared.refusal.LoadRefusal.{LoadRefusal}
use Rattle.comparison.specs.declared.refusal.LoadRefusal.TheVariants.{BadFile, BadRow}
use Rattle.comparison.specs.Settings.{Setting}

-- Is each state below its plan's number of states, the first's and then the second's? And then: is each marked?
abbrev pub pair_refused : Setting → ℕ → ℕ → Option PairRefusal
pair_refused setting s t =
    cond (nat_lt s setting.first.states)
    (cond (nat_lt t setting.second.states)
    (cond (setting.first.mark s)
    (cond (setting.second.mark t) None (Some (Unmarked Second)))
    (Some (Unmarked First)))
    (Some (NoState Second)))
    (Some (NoState First))

-- 13: no such state; 14: not marked. p is the row of a pair file, or 0
abbrev pub pair_numbers : ℕ → PairRefusal → Answer
pair_numbers p (NoState side) = numbers 13 (side_number side) p 0 0
pair_numbers p (Unmarked side) = numbers 14 (side_number side) p 0 0

-- ADD and STRIKE: refused, or did the pair stand before
abbrev pub or_refused : {X : Type 0} → Option PairRefusal → X → Result X PairRefusal
or_refused None x = Ok x
or_refused (Some refusal) x = Err refusal

abbrev pub change_result : Setting → Pairs → ℕ → ℕ → Result Bool PairRefusal
change_result setting pairs s t = or_refused (pair_refused setting s t) (pairs s t)

-- the five numbers: p is 1 if the pair stood before, else 0
abbrev pub change_numbers : Result Bool PairRefusal → Answer
change_numbers = changed_numbers (pair_numbers 0)

-- a refused call leaves the pairs as they were
abbrev pub unless_refused : Option PairRefusal → Pairs → Pairs → Pairs
unless_refused None new old = new
unless_refused (Some refusal) new old = old

abbrev pub after_add : Setting → Pairs → ℕ → ℕ → Pairs
after_add setting pairs s t = unless_refused (pair_refused setting s t) (with_pair pairs s t) pairs

abbrev pub after_strike : Setting → Pairs → ℕ → ℕ → Pairs
after_strike setting pairs s t = unless_refused (pair_refused setting s t) (without_pair pairs s t) pairs

-- the refusal of row i of a pair file
abbrev pub row_refused : Setting → List ℕ → ℕ → Option PairRefusal
row_refused setting file i = pair_refused setting (first_in file i) (second_in file i)

-- row by row, 13 and 14 as for ADD, the lowest row at fault; success tells the number of pairs
abbrev pub row_numbers : Option PairRefusal → ℕ → Answer → Answer
row_numbers None i next = next
row_numbers (Some refusal) i next = pair_numbers i refusal

abbrev pub rows_asked : Setting → List ℕ → Option ℕ → Answer
rows_asked setting file None = success (count_in file) 0
rows_asked setting file (Some i) = row_numbers (row_refused setting file i) i (success (count_in file) 0)

-- LOAD: the questions to the file, and then those to its rows
abbrev pub load_answer : Setting → List ℕ → Answer
load_answer setting file = file_asked file (rows_asked setting file (lowest (λ i. is_some (row_refused setting file i)) (count_in file)))

-- all of the file's pairs and no other, or the pairs as they were
abbrev pub after_load : Setting → Pairs → List ℕ → Pairs
after_load setting pairs file = cond ((load_answer setting file).number == 0) (pairs_in file) pairs

abbrev pub load_refusal_numbers : LoadRefusal → Answer
load_refusal_numbers (BadFile refusal) = refusal_numbers refusal
load_refusal_numbers (BadRow row refusal) = pair_numbers row refusal

abbrev pub load_numbers : Result ℕ LoadRefusal → Answer
load_numbers = counted_numbers load_refusal_numbers
