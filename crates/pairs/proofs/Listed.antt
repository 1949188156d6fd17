-- The listing of a set of pairs, one place further at a time: what it holds, and how long it is.
use Rattle.std.proofs.Common.{◌≡◌, ℕ, zero, suc, ◌+◌, ◌*◌, ◌<◌, ◌≤◌, Bool, true, false, cond, ◌⊎◌, [], ◌∷◌, ◌++◌, length, sym, refl, ap, ◌∙◌, subst, inl, inr, ⊎_elim, add-one, arith}
use Rattle.std.proofs.lemmas.List.{length-append, append-nil}
use Rattle.std.proofs.lemmas.Bool.{cases_order}
use Rattle.pairs.specs.Pairs.{Pairs}
use Rattle.pairs.specs.Listing.{partners_below, pairs_below, listing, pair_count}

pub cases_le : (k n : ℕ) → k ≤ n → (k ≡ n) ⊎ (k < n)
cases_le k n low = ⊎_elim inl (λ more. ⊎_elim inr (λ (above : n < k). absurd (omega arith)) more) (cases_order k n)

module _ (pairs : Pairs) where
  pub partners_none : (s : ℕ) → partners_below pairs s 0 ≡ []
  unfolding partners_below
  partners_none s = refl

  pub partners_more : (s k : ℕ) → partners_below pairs s (k + 1) ≡ partners_below pairs s k ++ cond (pairs s k) ((s, k) ∷ []) []
  unfolding partners_below
  partners_more s k = ap (partners_below pairs s) (add-one k)

  -- one pair more, or none
  pub partners_with : (s k : ℕ) → pairs s k ≡ true → partners_below pairs s (k + 1) ≡ partners_below pairs s k ++ (s, k) ∷ []
  partners_with s k is = partners_more s k ∙ ap (λ v. partners_below pairs s k ++ cond v ((s, k) ∷ []) []) is

  pub partners_without : (s k : ℕ) → pairs s k ≡ false → partners_below pairs s (k + 1) ≡ partners_below pairs s k
  partners_without s k is = partners_more s k ∙ ap (λ v. partners_below pairs s k ++ cond v ((s, k) ∷ []) []) is ∙ append-nil (partners_below pairs s k)

  pub pairs_none : pairs_below pairs 0 ≡ []
  unfolding pairs_below
  pairs_none = refl

  pub pairs_more : (k : ℕ) → pairs_below pairs (k + 1) ≡ pairs_below pairs k ++ partners_below pairs k 128
  unfolding pairs_below
  pairs_more k = ap (pairs_below pairs) (add-one k)

  -- the count is the length of the whole listing
  pub count_is : pair_count pairs ≡ length (pairs_below pairs 128)
  unfolding pair_count listing
  count_is = refl

  pub count_listed : pair_count pairs ≡ length (listing pairs)
  unfolding pair_count
  count_listed = refl

  pub listing_is : listing pairs ≡ pairs_below pairs 128
  unfolding listing
  listing_is = refl

  -- the lengths, one step on
  pub length_with : (s k n : ℕ) → n ≡ length (partners_below pairs s k) → true ≡ pairs s k → n + 1 ≡ length (partners_below pairs s (k + 1))
  length_with s k n count is = rw (partners_with s k (sym is), length-append) (ap (λ j. j + 1) count)

  pub length_more : (k n m : ℕ) → n ≡ length (pairs_below pairs k) → m ≡ length (partners_below pairs k 128) → n + m ≡ length (pairs_below pairs (k + 1))
  length_more k n m count count' = rw (pairs_more k, length-append, count, count') refl

  -- how long the lists can be
  length_one : (v : Bool) (x : ℕ × ℕ) → length (cond v (x ∷ []) []) ≤ 1
  length_one true x = omega arith
  length_one false x = omega arith

  pub partners_length : (s k : ℕ) → length (partners_below pairs s k) ≤ k
  unfolding partners_below
  partners_length s zero = omega arith
  partners_length s (suc k) = rw length-append (omega (arith, partners_length s k, length_one (pairs s k) (s, k)))

  pub pairs_length : (k : ℕ) → length (pairs_below pairs k) ≤ 128 * k
  unfolding pairs_below
  pairs_length zero = omega arith
  pairs_length (suc k) = rw length-append (omega (arith, pairs_length k, partners_length k 128))

  pub count_length : pair_count pairs ≤ 16384
  count_length = rw count_is (pairs_length 128)

  -- a list grows with its bound
  pub partners_grow : (s k n : ℕ) → k ≤ n → length (partners_below pairs s k) ≤ length (partners_below pairs s n)
  unfolding partners_below
  partners_grow s k zero low = omega (arith, partners_length s k)
  partners_grow s k (suc n) low =
      ⊎_elim
      (λ (last : k ≡ suc n). subst (λ j. length (partners_below pairs s k) ≤ length (partners_below pairs s j)) last (omega arith))
      (λ (lower : k < suc n). rw length-append (omega (arith, partners_grow s k n (omega arith))))
      (cases_le k (suc n) low)

  pub pairs_grow : (k n : ℕ) → k ≤ n → length (pairs_below pairs k) ≤ length (pairs_below pairs n)
  unfolding pairs_below
  pairs_grow k zero low = omega (arith, pairs_length k)
  pairs_grow k (suc n) low =
      ⊎_elim
      (λ (last : k ≡ suc n). subst (λ j. length (pairs_below pairs k) ≤ length (pairs_below pairs j)) last (omega arith))
      (λ (lower : k < suc n). rw length-append (omega (arith, pairs_grow k n (omega arith))))
      (cases_le k (suc n) low)
