-- How many are not in a set, as one more comes in.
use Rattle.std.proofs.Common.{◌≡◌, ℕ, zero, suc, ◌<◌, ◌≤◌, Bool, true, false, List, [], ◌∷◌, length, get_or, take, set, refl, ap, arith}
use Rattle.std.proofs.lemmas.Bool.{true≢false}
use Rattle.walk.specs.Walking.{absent}

-- one that was not in comes in, among the first n
pub absent_less : (n : ℕ) (xs : List Bool) (i : ℕ) → i < n → i < length xs → get_or xs i false ≡ false
    → absent (take n xs) ≡ suc (absent (take n (set xs i true)))
absent_less zero xs i low within out = absurd (omega (arith, low))
absent_less (suc n) [] i low within out = absurd (omega (arith, within))
absent_less (suc n) (true ∷ xs) zero low within out = absurd (true≢false out)
absent_less (suc n) (false ∷ xs) zero low within out = refl
absent_less (suc n) (true ∷ xs) (suc i) low within out = absent_less n xs i (omega (arith, low)) (omega (arith, within)) out
absent_less (suc n) (false ∷ xs) (suc i) low within out = ap suc (absent_less n xs i (omega (arith, low)) (omega (arith, within)) out)

-- at most all
pub absent_most : (n : ℕ) (xs : List Bool) → absent (take n xs) ≤ n
absent_most zero xs = omega arith
absent_most (suc n) [] = omega arith
absent_most (suc n) (true ∷ xs) = omega (arith, absent_most n xs)
absent_most (suc n) (false ∷ xs) = omega (arith, absent_most n xs)
