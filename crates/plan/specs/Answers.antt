-- The five numbers of an answer.
use Rattle.std.specs.Prelude.{ℕ, Bool, cond, Result, Ok, Err}
use Rattle.plan.specs.Model.{Model}
use Rattle.plan.specs.declared.answer.Answer.{Answer}
use Rattle.plan.specs.declared.answer.Side.{Side}
use Rattle.plan.specs.declared.answer.Side.TheVariants.{First, Second}
use Rattle.plan.specs.declared.answer.TooShort.{TooShort}

-- number, side, p, q, r
abbrev pub numbers : ℕ → ℕ → ℕ → ℕ → ℕ → Answer
numbers number side p q r = record { number = number; side = side; p = p; q = q; r = r }

-- success: number 0, with what it tells in p and q
abbrev pub success : ℕ → ℕ → Answer
success p q = numbers 0 0 p q 0

-- a refusal that names nothing more
abbrev pub refusal : ℕ → Answer
refusal number = numbers number 0 0 0 0

-- a refusal that names one place
abbrev pub refusal_at : ℕ → ℕ → Answer
refusal_at number p = numbers number 0 p 0 0

-- which of the two plans: 1 or 2
abbrev pub side_number : Side → ℕ
side_number First = 1
side_number Second = 2

-- 22: a lent slice is too short; p tells how many places there have to be
abbrev pub too_short_numbers : TooShort → Answer
too_short_numbers short = numbers 22 0 short.needed 0 0

-- a call that counts: the count in p, or the refusal
abbrev pub counted_numbers : {E : Type 0} → (E → Answer) → Result ℕ E → Answer
counted_numbers refused (Ok count) = success count 0
counted_numbers refused (Err refusal) = refused refusal

-- a call that changes one thing: p is 1 if it stood before, else 0; or the refusal
abbrev pub changed_numbers : {E : Type 0} → (E → Answer) → Result Bool E → Answer
changed_numbers refused (Ok stood) = numbers 0 0 (cond stood 1 0) 0 0
changed_numbers refused (Err refusal) = refused refusal

-- opening a plan, or joining two: what came of it, by what it means, or the refusal
abbrev pub opening_numbers : {P E : Type 0} → (P → Model) → (E → Answer) → Result P E → Answer
opening_numbers meaning refused (Ok plan) = success (meaning plan).states (meaning plan).channels
opening_numbers meaning refused (Err refusal) = refused refusal
