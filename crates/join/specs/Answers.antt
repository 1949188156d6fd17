-- What joining two plans answers.
use Rattle.std.specs.Prelude.{◌+◌, ◌*◌, cond, ⊤, Result, Ok, Err}
use Rattle.plan.specs.declared.answer.Answer.{Answer}
use Rattle.plan.specs.Answers.{numbers, success, opening_numbers}
use Rattle.plan.specs.Model.{Model}
use Rattle.join.specs.declared.JoinRefusal.{JoinRefusal}
use Rattle.join.specs.declared.JoinRefusal.TheVariants.{States, Channels}
use Rattle.join.specs.declared.NotJoined.{NotJoined}
use Rattle.join.specs.declared.Joined.{Joined}
use Rattle.join.specs.Joining.{states_fit, channels_fit}

-- 8: the product of the states is above 128; 9: the sum of the channels is above 4; both tell the first's number and the second's
abbrev pub join_answer : Model → Model → Answer
join_answer a b =
    cond (states_fit a b)
    (cond (channels_fit a b)
    (success (a.states * b.states) (a.channels + b.channels))
    (numbers 9 0 a.channels b.channels 0))
    (numbers 8 0 a.states b.states 0)

abbrev pub refusal_numbers : JoinRefusal → Answer
refusal_numbers (States first second) = numbers 8 0 first second 0
refusal_numbers (Channels first second) = numbers 9 0 first second 0

-- those of a refused join are its refusal's
abbrev pub back_numbers : {A B : Type 0} → NotJoined A B → Answer
back_numbers back = refusal_numbers back.refusal

-- the answer to joining, by what came of it
abbrev pub joining_numbers : {A B : Type 0} → (Joined A B → Model) → Result (Joined A B) (NotJoined A B) → Answer
joining_numbers meaning = opening_numbers meaning back_numbers

-- Do two plans keep the limits? The product of the states is asked before the sum of the channels.
abbrev pub limits_asked : Model → Model → Result ⊤ JoinRefusal
limits_asked a b =
    cond (states_fit a b)
    (cond (channels_fit a b) (Ok tt) (Err (Channels a.channels b.channels)))
    (Err (States a.states b.states))
