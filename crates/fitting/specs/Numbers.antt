-- The five numbers of judging.
use Rattle.std.specs.Prelude.{ℕ, Ok, Err, Result}
use Rattle.plan.specs.declared.answer.Answer.{Answer}
use Rattle.plan.specs.Answers.{numbers, success, refusal, side_number}
use Rattle.vet.specs.Findings.{finding_numbers}
use Rattle.fitting.specs.declared.misfit.Incomparable.{Incomparable}
use Rattle.fitting.specs.declared.misfit.Incomparable.TheVariants.{Unsound, Channels}
use Rattle.fitting.specs.declared.misfit.Misfit.{Misfit}
use Rattle.fitting.specs.declared.misfit.Misfit.TheVariants.{Plans, StartsApart, Unacceptable, Uncovered}

-- 15: the side's plan is not sound; p is the finding's number and q its state. 16: p and q are the numbers of channels.
abbrev pub incomparable_numbers : Incomparable → Answer
incomparable_numbers (Unsound side finding) =
    numbers 15 (side_number side) (finding_numbers finding).number (finding_numbers finding).p 0
incomparable_numbers (Channels p q) = numbers 16 0 p q 0

-- 17: the pair of starts does not stand. 18: p and q are the pair and r the channel. 19: the side of the closing, p and q the pair, r
-- the closing.
abbrev pub misfit_numbers : Misfit → Answer
misfit_numbers (Plans refused) = incomparable_numbers refused
misfit_numbers StartsApart = refusal 17
misfit_numbers (Unacceptable s t channel) = numbers 18 0 s t channel
misfit_numbers (Uncovered side s t closing) = numbers 19 (side_number side) s t closing

-- success tells the number of pairs
abbrev pub verdict_numbers : Result ℕ Misfit → Answer
verdict_numbers (Ok count) = success count 0
verdict_numbers (Err misfit) = misfit_numbers misfit
