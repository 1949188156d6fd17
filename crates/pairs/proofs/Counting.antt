-- How many pairs a row has, counted over its bytes, and how many all rows have, counted over a range.
use Rattle.std.proofs.Common.{◌≡◌, ℕ, zero, suc, ◌+◌, ◌≤◌, Bool, true, false, cond, eqb, List, [], ◌∷◌, ◌++◌, length, take, sym, refl, ap, ◌∙◌, arith, length-append}
use Rattle.std.specs.List.{range_with_len, count_by, sum_by}
use Rattle.std.proofs.lemmas.List.{take_all}
use Rattle.std.proofs.lemmas.List.Sums.{sum_by-append, sum_by_more}
use Rattle.pairs.specs.Pairs.{Pairs, kept_pairs}
use Rattle.pairs.specs.Listing.{partners_below, pairs_below}
use Rattle.pairs.specs.declared.table.PairTable.{PairTable}
use Rattle.pairs.proofs.Folding.{RowOf}

range_more : (a n : ℕ) → range_with_len a (suc n) ≡ range_with_len a n ++ (a + n) ∷ []
range_more a zero = ap (λ k. k ∷ []) (omega arith)
range_more a (suc n) = ap (λ xs. a ∷ xs) (range_more (a + 1) n ∙ ap (λ k. range_with_len (a + 1) n ++ k ∷ []) (omega arith))

-- what a place adds to the count
abbrev worth : Bool → ℕ
worth v = cond v 1 0

one : (v : Bool) (x : ℕ × ℕ) → worth v ≡ length (cond v (x ∷ []) [])
one true x = refl
one false x = refl

-- the first k bytes of a row
bytes_counted :
    (table : PairTable) (s : ℕ) (xs : List ℕ) (k : ℕ) → length xs ≡ 128 → RowOf table s xs → k ≤ 128
    → count_by (λ x. eqb x 1) (take k xs) ≡ length (partners_below (kept_pairs table) s k)
unfolding partners_below
bytes_counted table s xs zero long row few = refl
bytes_counted table s xs (suc k) long row few =
    let pairs = kept_pairs table in
    let next : suc k ≡ k + 1 = omega arith in
    ap (λ n. count_by (λ x. eqb x 1) (take n xs)) next
    ∙ sum_by_more (λ x. worth (eqb x 1)) xs k 0 (omega (arith, few, long))
    ∙ omega (arith, bytes_counted table s xs k long row (omega (arith, few)), ap worth (row k (omega (arith, few))), one (pairs s k) (s, k), length-append (partners_below pairs s k) (cond (pairs s k) ((s, k) ∷ []) []))

-- the bytes of a row
pub row_counted :
    (table : PairTable) (s : ℕ) (xs : List ℕ) → length xs ≡ 128 → RowOf table s xs
    → count_by (λ x. eqb x 1) xs ≡ length (partners_below (kept_pairs table) s 128)
row_counted table s xs long row =
    ap (count_by (λ x. eqb x 1)) (sym (take_all 128 xs (omega (arith, long))))
    ∙ bytes_counted table s xs 128 long row (omega arith)

module _ (pairs : Pairs) where
  -- the pairs of the rows below k
  pub rows_counted : (k : ℕ) → sum_by (λ s. length (partners_below pairs s 128)) (range_with_len 0 k) ≡ length (pairs_below pairs k)
  unfolding pairs_below
  rows_counted zero = refl
  rows_counted (suc k) =
      ap (sum_by (λ s. length (partners_below pairs s 128))) (range_more 0 k ∙ ap (λ j. range_with_len 0 k ++ j ∷ []) (omega arith))
      ∙ sum_by-append (λ s. length (partners_below pairs s 128)) (range_with_len 0 k) (k ∷ [])
      ∙ omega (arith, rows_counted k, length-append (pairs_below pairs k) (partners_below pairs k 128))
