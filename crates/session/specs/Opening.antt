-- What came of opening the gauge's table file beside the logger's table.
use Rattle.std.specs.Prelude.{◌≡◌, ℕ, cond, List, length, ◌==◌, Result, Ok, Err, IfOk}
use Rattle.plan.specs.declared.answer.Answer.{Answer}
use Rattle.plan.specs.Answers.{success}
use Rattle.plan.specs.Model.{Model}
use Rattle.layout.specs.Refusals.{refusal_numbers}
use Rattle.table.specs.Layout.{table_plan}
use Rattle.table.specs.contracts.table.ask.TablePlan.TheImpl.{ghosts}
use Rattle.join.specs.Joining.{joined}
use Rattle.join.specs.Meaning.{joined_meaning}
use Rattle.join.specs.Answers.{refusal_numbers as join_numbers}
use Rattle.session.specs.declared.second.Second.{Second}
use Rattle.session.specs.declared.second.Second.TheVariants.{Alone, Both}
use Rattle.session.specs.declared.second.GaugeRefusal.{GaugeRefusal}
use Rattle.session.specs.declared.second.GaugeRefusal.TheVariants.{BadFile, NotJoined}
use Rattle.session.specs.Session.{gauge_answer}

abbrev pub gauge_refusal_numbers : GaugeRefusal → Answer
gauge_refusal_numbers (BadFile refusal) = refusal_numbers refusal
gauge_refusal_numbers (NotJoined refusal) = join_numbers refusal

-- what the second plan means
abbrev pub second_meaning : Second → Model
second_meaning (Alone plan) = ghosts.meaning plan
second_meaning (Both plan) = joined_meaning ghosts.meaning ghosts.meaning plan

-- the answer to the gauge, from what came of it
abbrev pub second_numbers : Result Second GaugeRefusal → Answer
second_numbers (Ok (Alone plan)) = success 0 0
second_numbers (Ok (Both plan)) = success (joined_meaning ghosts.meaning ghosts.meaning plan).states (joined_meaning ghosts.meaning ghosts.meaning plan).channels
second_numbers (Err refusal) = gauge_refusal_numbers refusal

-- what the drawing is compared with, where the logger's table is m: that, or it joined with the gauge's
abbrev pub second_beside : Model → List ℕ → Model
second_beside m gauge = cond (length gauge == 0) m (joined m (table_plan gauge))

-- beside the logger's table m: the answer is the one that is defined, and the plan is the one that the files describe
pub record OpenedGauge (m : Model) (gauge : List ℕ) (opened : Result Second GaugeRefusal) : Type 0 where
  pub answered : second_numbers opened ≡ gauge_answer m gauge
  pub described : IfOk opened (λ second. second_meaning second ≡ second_beside m gauge)
