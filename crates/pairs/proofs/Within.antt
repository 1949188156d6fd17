-- A row within another, where one of them lies behind its table: the row has nothing.
use Rattle.std.proofs.Common.{◌≡◌, ℕ, zero, suc, ◌<◌, ◌≤◌, Bool, true, false, cond, eqb, ◌⊎◌, [], ◌∷◌, length, Decides, sym, refl, ◌∙◌, subst, ⊎_elim, arith}
use Rattle.std.proofs.lemmas.List.{length-append}
use Rattle.std.proofs.lemmas.Bool.{eqb-true, eq-eqb}
use Rattle.pairs.specs.Pairs.{Pairs, Has, RowWithin, kept_pairs}
use Rattle.pairs.specs.Listing.{partners_below}
use Rattle.pairs.specs.declared.table.PairTable.{PairTable}
use Rattle.pairs.proofs.Listed.{cases_le}
use Rattle.pairs.proofs.Reading.{kept_small}

one_place : (v : Bool) (x : ℕ × ℕ) → v ≡ true → length (cond v (x ∷ []) []) ≡ 1
one_place v x is = subst (λ u. length (cond u (x ∷ []) []) ≡ 1) (sym is) refl

no_place : (v : Bool) (x : ℕ × ℕ) → (v ≡ true → ⊥) → length (cond v (x ∷ []) []) ≡ 0
no_place true x never = absurd (never refl)
no_place false x never = refl

module _ (pairs : Pairs) (s : ℕ) where
  -- a row without pairs
  counts_none : (k t : ℕ) → t < k → length (partners_below pairs s k) ≡ 0 → Has pairs s t → ⊥
  unfolding partners_below
  counts_none zero t low none has = omega (arith, low)
  counts_none (suc k) t low none has =
      let both = simp length-append at none in
      ⊎_elim
      (λ (last : t ≡ k). omega (arith, both, one_place (pairs s k) (s, k) (subst (λ n. pairs s n ≡ true) last has)))
      (λ (lower : t < k). counts_none k t lower (omega (arith, both)) has)
      (cases_le t k (omega (arith, low)))

  pub none_counts : (k : ℕ) → ((t : ℕ) → Has pairs s t → ⊥) → length (partners_below pairs s k) ≡ 0
  unfolding partners_below
  none_counts zero never = refl
  none_counts (suc k) never = simp length-append (omega (arith, none_counts k never, no_place (pairs s k) (s, k) (never k)))

pub behind_within : (table other : PairTable) (i j n : ℕ) → n ≡ length (partners_below (kept_pairs table) i 128) → (128 ≤ i) ⊎ (128 ≤ j)
    → Decides (eqb n 0) (RowWithin (kept_pairs table) i (kept_pairs other) j)
behind_within table other i j n count behind = (
  λ none y has. absurd (counts_none (kept_pairs table) i 128 y (kept_small table i y has).1 (sym count ∙ eqb-true n 0 none) has),
  λ within.
      eq-eqb n 0
      (count ∙ none_counts (kept_pairs table) i 128
      (λ y has.
      ⊎_elim
      (λ (high : 128 ≤ i). omega (arith, high, (kept_small table i y has).0))
      (λ (high : 128 ≤ j). omega (arith, high, (kept_small other j y (within y has)).0))
      behind)),
)
