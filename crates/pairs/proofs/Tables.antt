-- The table of pairs.
use Rattle.std.proofs.Common.{◌≡◌, ℕ, ◌+◌, ◌*◌, ◌<◌, ◌≤◌, false, ◌&&◌, eqb, get_or, replicate, ap, ⊎_elim}
use Rattle.std.proofs.lemmas.List.{get_or-replicate, get_or_past, length-replicate}
use Rattle.std.proofs.lemmas.Bool.{cases_lt, and_right}
use Rattle.pairs.specs.Pairs.{fits_table}

zeros : (n i : ℕ) → get_or {A = ℕ} (replicate n 0) i 0 ≡ 0
zeros n i =
    ⊎_elim
    (λ (low : i < n). get_or-replicate {A = ℕ} n i 0 0 low)
    (λ (high : n ≤ i). get_or_past {X = ℕ} (replicate n 0) i 0 (rw length-replicate high))
    (cases_lt i n)

-- a table of zeros keeps no pair
pub empty_keeps : (x y : ℕ) → (fits_table x y && eqb (get_or (replicate 16384 0) (x * 128 + y) 0) 1) ≡ false
empty_keeps x y =
    and_right (fits_table x y) _ (ap (λ v. eqb v 1) (zeros 16384 (x * 128 + y)))
