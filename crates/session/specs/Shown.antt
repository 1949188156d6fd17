-- How a line is printed.
use Rattle.std.specs.Prelude.{ℕ, List, ◌++◌, codes}
use Rattle.std.proofs.Math.Utf8.{encode}
use Rattle.plan.specs.declared.answer.Answer.{Answer}
use Rattle.plan.specs.Shown.{shown_answer}

-- its letter, a space, and the five numbers of the answer
abbrev pub shown_line : ℕ → Answer → List ℕ
shown_line letter answer =
    encode letter ++ (codes " " ++ shown_answer answer.number answer.side answer.p answer.q answer.r)
