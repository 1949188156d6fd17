-- What is known of an answer once a file was opened, or refused.
use Rattle.std.proofs.Common.{◌≡◌, ℕ, true, false, List, Result, Ok, Err, refl, ap, ◌∙◌, subst}
use Rattle.std.specs.Result.{IfOk}
use Rattle.plan.specs.declared.answer.Answer.{Answer}
use Rattle.plan.specs.Model.{Model}
use Rattle.layout.specs.Refusals.{refusal_numbers, opening_numbers}
use Rattle.layout.specs.declared.refusal.FileRefusal.{FileRefusal}
use Rattle.layout.specs.declared.refusal.FileRefusal.TheVariants.{Length, Sign, Counts, Start, Parts, Row, Step}
use Rattle.join.specs.declared.JoinRefusal.TheVariants.{States, Channels}
use Rattle.session.specs.declared.second.Second.{Second}
use Rattle.session.specs.declared.second.Second.TheVariants.{Alone, Both}
use Rattle.session.specs.declared.second.GaugeRefusal.{GaugeRefusal}
use Rattle.session.specs.declared.second.GaugeRefusal.TheVariants.{BadFile, NotJoined}
use Rattle.session.specs.Session.{succeeds, gauge_answer}
use Rattle.session.specs.Opening.{gauge_refusal_numbers, second_meaning, second_numbers, second_beside, OpenedGauge}

-- a refusal is no success
refused_fails : (refused : FileRefusal) → succeeds (refusal_numbers refused) ≡ false
refused_fails Length = refl
refused_fails Sign = refl
refused_fails Counts = refl
refused_fails Start = refl
refused_fails Parts = refl
refused_fails (Row i) = refl
refused_fails (Step i) = refl

gauge_fails : (refused : GaugeRefusal) → succeeds (gauge_refusal_numbers refused) ≡ false
gauge_fails (BadFile refused) = refused_fails refused
gauge_fails (NotJoined (States p q)) = refl
gauge_fails (NotJoined (Channels p q)) = refl

gauge_passes : (second : Second) → succeeds (second_numbers (Ok second)) ≡ true
gauge_passes (Alone plan) = refl
gauge_passes (Both plan) = refl

-- a plan file, with the answer that is defined for it and the plan that it describes
module _ {P : Type 0} (meaning : P → Model) (r : Result P FileRefusal) (answer said : Answer) (is : answer ≡ opening_numbers meaning r) (numbers : opening_numbers meaning r ≡ said) where
  pub plan_opened : (x : P) (plan : Model) → r ≡ Ok x → IfOk r (λ y. meaning y ≡ plan) → (answer ≡ said) × (succeeds answer ≡ true) × (meaning x ≡ plan)
  plan_opened x plan ok described = (
    is ∙ numbers,
    ap succeeds (is ∙ ap (opening_numbers meaning) ok),
    subst (λ o. IfOk o (λ y. meaning y ≡ plan)) ok described,
  )

  pub plan_refused : (refused : FileRefusal) → r ≡ Err refused → (answer ≡ said) × (succeeds answer ≡ false)
  plan_refused refused err = (is ∙ numbers, ap succeeds (is ∙ ap (opening_numbers meaning) err) ∙ refused_fails refused)

-- the gauge's file beside a table that means m
module _ (m n : Model) (gauge : List ℕ) (r : Result Second GaugeRefusal) (last : Answer) (same : m ≡ n) (is : last ≡ second_numbers r) (opened : OpenedGauge m gauge r) where
  answered : last ≡ gauge_answer n gauge
  answered = is ∙ opened.answered ∙ ap (λ x. gauge_answer x gauge) same

  pub gauge_opened : (second : Second) → r ≡ Ok second → (last ≡ gauge_answer n gauge) × (succeeds last ≡ true) × (second_meaning second ≡ second_beside n gauge)
  gauge_opened second ok = (
    answered,
    ap succeeds (is ∙ ap second_numbers ok) ∙ gauge_passes second,
    subst (λ o. IfOk o (λ s. second_meaning s ≡ second_beside m gauge)) ok opened.described ∙ ap (λ x. second_beside x gauge) same,
  )

  pub gauge_refused : (refused : GaugeRefusal) → r ≡ Err refused → (last ≡ gauge_answer n gauge) × (succeeds last ≡ false)
  gauge_refused refused err = (answered, ap succeeds (is ∙ ap second_numbers err) ∙ gauge_fails refused)
