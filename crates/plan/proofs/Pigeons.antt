-- More places than values: two places have the same value.
use Rattle.std.proofs.Common.{◌≡◌, ℕ, zero, suc, ◌-◌, ◌<◌, ◌≤◌, cond, ltb, ◌≢◌, ◌⊎◌, sym, ap, ◌∙◌, inl, inr, ⊎_elim, arith}
use Rattle.std.proofs.lemmas.Bool.{cases_eq}
use Rattle.std.proofs.lemmas.Bool.Decides.{nat_tests}

-- two places below k with the same value
abbrev pub Twice : (ℕ → ℕ) → ℕ → Type 0
Twice f k = (i : ℕ) × (j : ℕ) × (i < j) × (j < k) × (f i ≡ f j)

-- some place below k has the value v, or none has
found : (f : ℕ → ℕ) (v k : ℕ) → ((i : ℕ) × (i < k) × (f i ≡ v)) ⊎ ((i : ℕ) → i < k → f i ≡ v → ⊥)
found f v zero = inr (λ i low. absurd (omega (arith, low)))
found f v (suc k) =
    ⊎_elim
    (λ there. inl (there.0, omega (arith, there.1), there.2))
    (λ none.
    ⊎_elim
    (λ (here : f k ≡ v). inl (k, omega arith, here))
    (λ (other : f k ≡ v → ⊥).
    inr (λ i low e.
    ⊎_elim
    (λ (last : i ≡ k). other (ap f (sym last) ∙ e))
    (λ (not_last : i ≡ k → ⊥). none i (omega (arith, not_last)) e)
    (cases_eq i k)))
    (cases_eq (f k) v))
    (found f v k)

-- the numbers but v, moved up to close the gap
abbrev pub squeezed : ℕ → ℕ → ℕ
squeezed v x = cond (ltb x v) x (x - 1)

squeezed_same : (v x y : ℕ) → x ≢ v → y ≢ v → squeezed v x ≡ squeezed v y → x ≡ y
squeezed_same v x y no-x no-y e = grind (arith, nat_tests)

pub squeezed_below : (v x n : ℕ) → v < suc n → x < suc n → x ≢ v → squeezed v x < n
squeezed_below v x n hv hx other = grind (arith, nat_tests)

pub pigeons : (n k : ℕ) (f : ℕ → ℕ) → ((i : ℕ) → i < k → f i < n) → n < k → Twice f k
pigeons zero k f below more = absurd (omega (arith, below 0 more))
pigeons (suc n) zero f below more = absurd (omega (arith, more))
pigeons (suc n) (suc k) f below more =
    ⊎_elim
    (λ there. (there.0, k, there.1, omega arith, there.2))
    (λ none.
    let rest : Twice (λ i. squeezed (f k) (f i)) k =
    pigeons n k (λ i. squeezed (f k) (f i)) (λ i low. squeezed_below (f k) (f i) n (below k (omega arith)) (below i (omega arith)) (none i low)) (omega arith) in
    (rest.0, rest.1, rest.2, omega (arith, rest.3), squeezed_same (f k) (f rest.0) (f rest.1) (none rest.0 (omega (arith, rest.2, rest.3))) (none rest.1 rest.3) rest.4))
    (found f (f k) k)

-- the same where one value below n is never taken
pub pigeons_but : (n k v : ℕ) (f : ℕ → ℕ) → v < n → ((i : ℕ) → i < k → f i < n) → ((i : ℕ) → i < k → f i ≡ v → ⊥) → n ≤ k → Twice f k
pigeons_but zero k v f hv below never more = absurd (omega (arith, hv))
pigeons_but (suc n) k v f hv below never more =
    let rest : Twice (λ i. squeezed v (f i)) k = pigeons n k (λ i. squeezed v (f i)) (λ i low. squeezed_below v (f i) n hv (below i low) (never i low)) (omega arith) in
    (rest.0, rest.1, rest.2, rest.3, squeezed_same v (f rest.0) (f rest.1) (never rest.0 (omega (arith, rest.2, rest.3))) (never rest.1 rest.3) rest.4)
