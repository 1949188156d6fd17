-- A scan over the pairs of a set in ascending order: all have a property, or the first that has not is found.
use Rattle.std.proofs.Common.{◌≡◌, ℕ, ◌+◌, ◌<◌, ◌≢◌, sym, subst, ⊎_elim, arith}
use Rattle.std.proofs.lemmas.Bool.{cases_eq}
use Rattle.pairs.specs.Pairs.{Has, Pairs}
use Rattle.fitting.specs.Judging.{FirstSuch}
use Rattle.fitting.specs.Covering.{AllBelow, RowBelow}

module _ (pairs : Pairs) (P : ℕ → ℕ → Type 0) where
  pub all_none : AllBelow pairs P 0
  all_none x y low has = absurd (omega (arith, low))

  -- one place more of a row: its pair has P, or is not in the set
  pub row_more : (s k : ℕ) → RowBelow pairs P s k → (Has pairs s k → P s k) → RowBelow pairs P s (k + 1)
  row_more s k below here y low has =
      ⊎_elim
      (λ (last : y ≡ k). subst (P s) (sym last) (here (subst (Has pairs s) last has)))
      (λ (earlier : y ≢ k). below y (omega (arith, low, earlier)) has)
      (cases_eq y k)

  -- one row more, of which k places were looked at; no pair of the set lies behind them
  pub all_more : (s k : ℕ) → AllBelow pairs P s → RowBelow pairs P s k → ((y : ℕ) → Has pairs s y → y < k) → AllBelow pairs P (s + 1)
  all_more s k below row within x y low has =
      ⊎_elim
      (λ (last : x ≡ s).
      let here : Has pairs s y = subst (λ v. Has pairs v y) last has in subst (λ v. P v y) (sym last) (row y (within y here) here))
      (λ (earlier : x ≢ s). below x y (omega (arith, low, earlier)) has)
      (cases_eq x s)

  -- the first pair that has S, where S and P exclude each other
  pub first_such : (S : ℕ → ℕ → Type 0) (s t : ℕ) → AllBelow pairs P s → RowBelow pairs P s t → ((x y : ℕ) → P x y → S x y → ⊥) → Has pairs s t → S s t → FirstSuch pairs S s t
  first_such S s t below row never has such = record {
    stands = has;
    such = such;
    none_earlier = λ x y earlier has' such'.
        ⊎_elim
        (λ (less : x < s). never x y (below x y less has') such')
        (λ (same : (x ≡ s) × (y < t)).
        never s y (row y same.1 (subst (λ v. Has pairs v y) same.0 has')) (subst (λ v. S v y) same.0 such'))
        earlier;
  }
