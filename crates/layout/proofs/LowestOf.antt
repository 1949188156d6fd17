-- What `lowest` gives: the lowest number that passes, or nothing where none does.
use Rattle.std.proofs.Common.{◌≡◌, ℕ, zero, suc, ◌<◌, Bool, true, false, ◌⊎◌, Some, None, sym, refl, ap, ◌∙◌, subst, inl, inr, ⊎_elim, arith}
use Rattle.std.proofs.lemmas.Bool.{cases_order, cases_Bool}
use Rattle.layout.specs.Lowest.{lowest, Lowest, LowestMeans}

-- where nothing below n passes, there is no lowest
pub lowest_none : (test : ℕ → Bool) (n : ℕ) → ((k : ℕ) → k < n → test k ≡ false) → lowest test n ≡ None
lowest_none test zero none = refl
lowest_none test (suc n) none =
    let before : lowest test n ≡ None = lowest_none test n (λ k h. none k (omega arith)) in
    let here : test n ≡ false = none n (omega arith) in
    rw (before, here) refl

-- a number that passes, below n, with none lower, is the lowest
pub lowest_is : (test : ℕ → Bool) (n i : ℕ) → Lowest test n i → lowest test n ≡ Some i
lowest_is test zero i low = absurd (omega (arith, low.below))
lowest_is test (suc n) i low =
    ⊎_elim
    (λ (here : i ≡ n).
    let before : lowest test n ≡ None = lowest_none test n (λ k h. low.none_lower k (omega arith)) in
    let passes : test n ≡ true = subst (λ (m : ℕ). test m ≡ true) here low.passes in
    rw (before, passes) (ap Some (sym here)))
    (⊎_elim
    (λ (lower : i < n).
    let before : lowest test n ≡ Some i = lowest_is test n i (record { below = lower; passes = low.passes; none_lower = low.none_lower }) in
    rw before refl)
    (λ (above : n < i). absurd (omega (arith, low.below))))
    (cases_order i n)

-- either none passes, or there is a lowest that does
decided : (test : ℕ → Bool) (n : ℕ) → ((k : ℕ) → k < n → test k ≡ false) ⊎ ((i : ℕ) × Lowest test n i)
decided test zero = inl (λ k low. absurd (omega (arith, low)))
decided test (suc n) =
    ⊎_elim
    (λ none.
    ⊎_elim
    (λ (passes : test n ≡ true). inr (n, record { below = omega arith; passes = passes; none_lower = none }))
    (λ (fails : test n ≡ false).
    inl (λ k low.
    ⊎_elim
    (λ (last : k ≡ n). subst (λ (m : ℕ). test m ≡ false) (sym last) fails)
    (⊎_elim (λ (lower : k < n). none k lower) (λ (above : n < k). absurd (omega (arith, low))))
    (cases_order k n)))
    (cases_Bool (test n)))
    (λ there. inr (there.0, record { below = omega (arith, there.1.below); passes = there.1.passes; none_lower = there.1.none_lower }))
    (decided test n)

pub lowest_means : LowestMeans
lowest_means test n = (
  λ i is.
      ⊎_elim
      (λ none. let e : Some i ≡ None = sym is ∙ lowest_none test n none in let z : ◌≡◌ {A = ℕ} 0 1 = cc in absurd (omega arith))
      (λ there.
      let e : Some i ≡ Some there.0 = sym is ∙ lowest_is test n there.0 there.1 in
      let same : there.0 ≡ i = cc in
      subst (Lowest test n) same there.1)
      (decided test n),
  λ is.
      ⊎_elim
      (λ none. none)
      (λ there.
      let e : None ≡ Some there.0 = sym is ∙ lowest_is test n there.0 there.1 in
      let z : ◌≡◌ {A = ℕ} 0 1 = cc in absurd (omega arith))
      (decided test n),
)
