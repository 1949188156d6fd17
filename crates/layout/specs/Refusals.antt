-- What each refusal of a plan file says in numbers, and what opening a file answers.
use Rattle.std.specs.Prelude.{ℕ, cond, List, Ok, Err, Result}
use Rattle.plan.specs.declared.answer.Answer.{Answer}
use Rattle.plan.specs.Answers.{refusal, refusal_at, opening_numbers as plan_numbers}
use Rattle.plan.specs.Model.{Model}
use Rattle.layout.specs.Questions.{fits_length, begins_with}
use Rattle.layout.specs.declared.refusal.FileRefusal.{FileRefusal}
use Rattle.layout.specs.declared.refusal.FileRefusal.TheVariants.{Length, Sign, Counts, Start, Parts, Row, Step}

abbrev pub refusal_numbers : FileRefusal → Answer
refusal_numbers Length = refusal 1
refusal_numbers Sign = refusal 2
refusal_numbers Counts = refusal 3
refusal_numbers Start = refusal 4
refusal_numbers Parts = refusal 5
refusal_numbers (Row row) = refusal_at 6 row
refusal_numbers (Step row) = refusal_at 7 row

-- the answer to opening a file: what was opened, by what it means, or the refusal
abbrev pub opening_numbers : {P : Type 0} → (P → Model) → Result P FileRefusal → Answer
opening_numbers meaning = plan_numbers meaning refusal_numbers

-- the first two questions to a file with a header of h bytes and the sign x y: the first no decides
abbrev pub beginning_asked : ℕ → ℕ → ℕ → List ℕ → Result Unit FileRefusal
beginning_asked h x y b = cond (fits_length h b) (cond (begins_with x y b) (Ok tt) (Err Sign)) (Err Length)
