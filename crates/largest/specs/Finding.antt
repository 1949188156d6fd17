-- What a search for the largest fitting set finds: the questions in their order.
use Rattle.std.specs.Prelude.{◌≡◌, Ok, Err, Result}
use Rattle.plan.specs.declared.answer.Answer.{Answer}
use Rattle.plan.specs.Answers.{refusal}
use Rattle.plan.specs.Model.{Model}
use Rattle.rules.specs.Rules.{Says}
use Rattle.pairs.specs.Pairs.{Pairs, kept_pairs}
use Rattle.pairs.specs.declared.table.PairTable.{PairTable}
use Rattle.fitting.specs.Judging.{Asked, PlansAsked}
use Rattle.fitting.specs.Numbers.{incomparable_numbers}
use Rattle.largest.specs.declared.nofit.NoFit.{NoFit}
use Rattle.largest.specs.declared.nofit.NoFit.TheVariants.{Plans, NoneFits}
use Rattle.largest.specs.Rounds.{SomeFits, Largest}

-- Does a fitting set exist? Then the largest is found.
abbrev pub FitAsked : Model → Model → Says → Result Pairs NoFit → Type 0
FitAsked a b says =
    Asked (SomeFits a b says) (λ r. r ≡ Err NoneFits)
    (λ r. (pairs : Pairs) × Largest a b says pairs × (r ≡ Ok pairs))

-- The questions to the plans, and then that one.
abbrev pub FindsLargest : Model → Model → Says → Result Pairs NoFit → Type 0
FindsLargest a b says = PlansAsked a b (λ e. Err (Plans e)) (FitAsked a b says)

-- the set that a found table keeps
abbrev pub kept_result : Result PairTable NoFit → Result Pairs NoFit
kept_result (Ok table) = Ok (kept_pairs table)
kept_result (Err e) = Err e

-- 15 and 16 as for judging; 20: no set fits
abbrev pub no_fit_numbers : NoFit → Answer
no_fit_numbers (Plans refused) = incomparable_numbers refused
no_fit_numbers NoneFits = refusal 20
