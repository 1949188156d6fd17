-- A set within another has at most as many pairs, and fewer where it lacks one.
use Rattle.std.proofs.Common.{◌≡◌, ℕ, zero, suc, ◌<◌, ◌≤◌, Bool, true, false, cond, [], ◌∷◌, length, sym, refl, subst, ⊎_elim, arith}
use Rattle.std.proofs.lemmas.List.{length-append}
use Rattle.std.proofs.lemmas.Bool.{both_ways}
use Rattle.pairs.specs.Pairs.{Pairs, Has}
use Rattle.pairs.specs.Listing.{partners_below, pairs_below, pair_count}
use Rattle.pairs.proofs.Listed.{cases_le, count_is}

-- one place of both
one_within : (v w : Bool) (x : ℕ × ℕ) → (v ≡ true → w ≡ true) → length (cond v (x ∷ []) []) ≤ length (cond w (x ∷ []) [])
one_within true true x within = omega arith
one_within true false x within = absurd (both_ways false refl (within refl))
one_within false true x within = omega arith
one_within false false x within = omega arith

one_fewer : (v w : Bool) (x : ℕ × ℕ) → v ≡ false → w ≡ true → length (cond v (x ∷ []) []) < length (cond w (x ∷ []) [])
one_fewer v w x is is' =
    subst (λ u. length (cond u (x ∷ []) []) < length (cond w (x ∷ []) [])) (sym is)
    (subst (λ u. length (cond false (x ∷ []) []) < length (cond u (x ∷ []) [])) (sym is') (omega arith))

module _ (new old : Pairs) (within : (s t : ℕ) → Has new s t → Has old s t) where
  row_within : (s k : ℕ) → length (partners_below new s k) ≤ length (partners_below old s k)
  unfolding partners_below
  row_within s zero = omega arith
  row_within s (suc k) =
      simp length-append (omega (arith, row_within s k, one_within (new s k) (old s k) (s, k) (within s k)))

  row_fewer : (s t k : ℕ) → t < k → new s t ≡ false → Has old s t → length (partners_below new s k) < length (partners_below old s k)
  unfolding partners_below
  row_fewer s t zero low lacks has = absurd (omega (arith, low))
  row_fewer s t (suc k) low lacks has =
      ⊎_elim
      (λ (last : t ≡ k).
      let fewer = one_fewer (new s k) (old s k) (s, k) (subst (λ n. new s n ≡ false) last lacks) (subst (λ n. old s n ≡ true) last has) in
      simp length-append (omega (arith, row_within s k, fewer)))
      (λ (lower : t < k).
      simp length-append (omega (arith, row_fewer s t k lower lacks has, one_within (new s k) (old s k) (s, k) (within s k))))
      (cases_le t k (omega (arith, low)))

  rows_within : (k : ℕ) → length (pairs_below new k) ≤ length (pairs_below old k)
  unfolding pairs_below
  rows_within zero = omega arith
  rows_within (suc k) = simp length-append (omega (arith, rows_within k, row_within k 128))

  rows_fewer : (s t k : ℕ) → s < k → t < 128 → new s t ≡ false → Has old s t → length (pairs_below new k) < length (pairs_below old k)
  unfolding pairs_below
  rows_fewer s t zero low low' lacks has = absurd (omega (arith, low))
  rows_fewer s t (suc k) low low' lacks has =
      ⊎_elim
      (λ (last : s ≡ k).
      let fewer = row_fewer k t 128 low' (subst (λ n. new n t ≡ false) last lacks) (subst (λ n. old n t ≡ true) last has) in
      simp length-append (omega (arith, rows_within k, fewer)))
      (λ (lower : s < k). simp length-append (omega (arith, rows_fewer s t k lower low' lacks has, row_within k 128)))
      (cases_le s k (omega (arith, low)))

  pub fewer_pairs : (s t : ℕ) → s < 128 → t < 128 → new s t ≡ false → Has old s t → pair_count new < pair_count old
  fewer_pairs s t low low' lacks has = rw (count_is new, count_is old) (rows_fewer s t 128 low low' lacks has)
