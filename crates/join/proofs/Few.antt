-- How many steps there can be: no more than there are states.
use Rattle.std.proofs.Common.{ℕ, ◌<◌, ◌≤◌, List, length, get_or, ⊎_elim, le_trans, arith}
use Rattle.std.proofs.lemmas.Bool.{cases_lt}
use Rattle.plan.specs.Model.{Model, Lawful, Distinct}
use Rattle.plan.proofs.Pigeons.{pigeons}

-- a list of different numbers below n has at most n: of more, two would be equal
pub distinct_few : (n : ℕ) (xs : List ℕ) → Distinct xs → ((i : ℕ) → i < length xs → get_or xs i 0 < n) → length xs ≤ n
distinct_few n xs apart below =
    ⊎_elim
    (λ (more : n < length xs).
    let twice = pigeons n (length xs) (λ i. get_or xs i 0) below more in
    absurd (omega (arith, twice.2, apart twice.0 twice.1 (omega (arith, twice.2, twice.3)) twice.3 twice.4)))
    (λ (few : length xs ≤ n). few)
    (cases_lt n (length xs))

-- a state of a lawful plan has at most 128 steps
pub steps_few : (m : Model) → Lawful m → (s : ℕ) → length (m.steps s) ≤ 128
steps_few m lawful s = le_trans (distinct_few m.states (m.steps s) (lawful.no_repeats s) (lawful.inside s)) lawful.few
