-- How an answer is printed.
use Rattle.std.specs.Prelude.{ℕ, List, ◌++◌, codes, decimal}

-- its five numbers in decimal, single spaces between
abbrev pub shown_answer : ℕ → ℕ → ℕ → ℕ → ℕ → List ℕ
shown_answer number side p q r =
    decimal number
    ++ (codes " " ++ (decimal side ++ (codes " " ++ (decimal p ++ (codes " " ++ (decimal q ++ (codes " " ++ decimal r)))))))
