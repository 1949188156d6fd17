-- A table that is made of a test, place by place.
use Rattle.std.proofs.Common.{◌≡◌, ℕ, ◌+◌, ◌<◌, ◌≤◌, Bool, true, false, cond, ltb, List, ◌≢◌, MatchBool, sym, ap, ◌∙◌, subst, below_more, arith}
use Rattle.std.proofs.lemmas.Bool.{and_parts, ltb-true}
use Rattle.std.proofs.lemmas.Bool.Decides.{nat_tests, same_from_decides}
use Rattle.pairs.specs.declared.table.PairTable.{PairTable}
use Rattle.pairs.specs.Pairs.{Pairs, Has, with_pair, without_pair, fits_table, kept_pairs, RowSays}

-- the table with this place set
abbrev pub Set : Bool → Pairs → Pairs → ℕ → ℕ → Type 0
Set stands old new s t = MatchBool stands (new ≡ cond (fits_table s t) (with_pair old s t) old) (new ≡ without_pair old s t)

set_here : (stands : Bool) (old new : Pairs) (s t : ℕ) → s < 128 → t < 128 → Set stands old new s t → new s t ≡ stands
set_here true old new s t low low' is = ap (λ p. p s t) is ∙ grind (arith, nat_tests)
set_here false old new s t low low' is = ap (λ p. p s t) is ∙ grind (arith, nat_tests)

set_other_row : (stands : Bool) (old new : Pairs) (s t x y : ℕ) → x ≢ s → Set stands old new s t → new x y ≡ old x y
set_other_row true old new s t x y other is = ap (λ p. p x y) is ∙ grind (arith, nat_tests)
set_other_row false old new s t x y other is = ap (λ p. p x y) is ∙ grind (arith, nat_tests)

set_other_column : (stands : Bool) (old new : Pairs) (s t x y : ℕ) → y ≢ t → Set stands old new s t → new x y ≡ old x y
set_other_column true old new s t x y other is = ap (λ p. p x y) is ∙ grind (arith, nat_tests)
set_other_column false old new s t x y other is = ap (λ p. p x y) is ∙ grind (arith, nat_tests)

-- in row s, the first k places say what the test says
abbrev pub RowMade : (ℕ → ℕ → Bool → Type 0) → Pairs → ℕ → ℕ → Type 0
RowMade says pairs s k = (t : ℕ) → t < k → says s t (pairs s t)

-- and so do all places of the rows below k
abbrev pub Made : (ℕ → ℕ → Bool → Type 0) → Pairs → ℕ → Type 0
Made says pairs k = (s : ℕ) → s < k → RowMade says pairs s 128

module _ (says : ℕ → ℕ → Bool → Type 0) (old new : Pairs) (s t : ℕ) (stands : Bool) (is : Set stands old new s t) where
  -- one place more
  pub row_more : s < 128 → t < 128 → says s t stands → RowMade says old s t → RowMade says new s (t + 1)
  row_more low low' said row =
      below_more _ t
      (λ y below. let other : y ≢ t = omega arith in subst (says s y) (sym (set_other_column stands old new s t s y other is)) (row y below))
      (subst (says s t) (sym (set_here stands old new s t low low' is)) said)

  -- the rows before stay
  pub made_stays : Made says old s → Made says new s
  made_stays made x below y low =
      let other : x ≢ s = omega arith in
      subst (says x y) (sym (set_other_row stands old new s t x y other is)) (made x below y low)

-- the rows below k are each what a row says that is given
abbrev pub RowsGiven : (ℕ → List Bool → Type 0) → Pairs → ℕ → Type 0
RowsGiven gives pairs k = (s : ℕ) → s < k → RowSays gives pairs s

-- they stay, where a place of a later row is set
pub given_stays : (gives : ℕ → List Bool → Type 0) (old new : Pairs) (s t : ℕ) (stands : Bool) → Set stands old new s t → RowsGiven gives old s → RowsGiven gives new s
given_stays gives old new s t stands is given x below =
    let other : x ≢ s = omega arith in
    let row = given x below in
    (row.0, row.1, λ y low. set_other_row stands old new s t x y other is ∙ row.2 y low)

-- a row more
pub made_more : (says : ℕ → ℕ → Bool → Type 0) (pairs : Pairs) (s k : ℕ) → 128 ≤ k → Made says pairs s → RowMade says pairs s k → Made says pairs (s + 1)
made_more says pairs s k all made row = below_more (λ x. RowMade says pairs x 128) s made (λ t low. row t (omega arith))

-- a pair that stands fits its table
pub kept_within : (table : PairTable) (s t : ℕ) → Has (kept_pairs table) s t → (s < 128) × (t < 128)
kept_within table s t has =
    let fits = (and_parts (fits_table s t) _ has).0 in
    let both = and_parts (ltb s 128) (ltb t 128) fits in
    (ltb-true s 128 both.0, ltb-true t 128 both.1)

-- a table keeps just the pairs of a set that fits it, where its places say so
pub made_is : (table : PairTable) (pairs : Pairs) → ((s t : ℕ) → Has pairs s t → (s < 128) × (t < 128))
    → ((s t : ℕ) → s < 128 → t < 128 → kept_pairs table s t ≡ pairs s t) → kept_pairs table ≡ pairs
made_is table pairs within each =
    let at : (s t : ℕ) → kept_pairs table s t ≡ pairs s t =
    λ s t.
    same_from_decides (kept_pairs table s t) (pairs s t)
    (λ has. let low = kept_within table s t has in sym (each s t low.0 low.1) ∙ has, λ has. let low = within s t has in each s t low.0 low.1 ∙ has)
    (λ has. has, λ has. has) in
    λ i s t. at s t i
