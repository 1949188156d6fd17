-- What the two folds over a row of each table say.
use Rattle.std.proofs.Common.{◌≡◌, ℕ, zero, suc, ◌<◌, Bool, true, false, not, ◌&&◌, ◌||◌, eqb, ◌⊎◌, List, [], ◌∷◌, length, get_or, Decides, sym, refl, ap, ◌∙◌, inl, inr, ⊎_elim, arith}
use Rattle.std.specs.List.{zip, fold}
use Rattle.std.proofs.lemmas.Bool.{and_parts, and_from, or_cases, or_left, or_right, eqb-true, eq-eqb, cases_Bool, true≢false}
use Rattle.pairs.specs.declared.table.PairTable.{PairTable}
use Rattle.pairs.specs.Pairs.{Has, RowWithin, kept_pairs}
use Rattle.pairs.proofs.Reading.{kept_small}

-- both bytes of a column are 1, and the second is 1 if the first is
abbrev both : ℕ × ℕ → Bool
both p = eqb p.0 1 && eqb p.1 1

abbrev kept_too : ℕ × ℕ → Bool
kept_too p = not (eqb p.0 1) || eqb p.1 1

-- one step of each fold
abbrev pub meets : Bool → ℕ × ℕ → Bool
meets met p = met || both p

abbrev pub keeps : Bool → ℕ × ℕ → Bool
keeps within p = within && kept_too p

-- a column of these rows
abbrev Met : List ℕ → List ℕ → Type 0
Met xs ys = (k : ℕ) × (k < length xs) × (get_or xs k 0 ≡ 1) × (get_or ys k 0 ≡ 1)

abbrev Within : List ℕ → List ℕ → Type 0
Within xs ys = (k : ℕ) → k < length xs → get_or xs k 0 ≡ 1 → get_or ys k 0 ≡ 1

at_or_after :
    (x y : ℕ) (xs ys : List ℕ) (m : Bool) (k : ℕ) → k < length (x ∷ xs) → get_or (x ∷ xs) k 0 ≡ 1 → get_or (y ∷ ys) k 0 ≡ 1 → ((m || both (x, y)) ≡ true) ⊎ Met xs ys
at_or_after x y xs ys m zero low is is' = inl (or_right m (both (x, y)) (and_from (eqb x 1) (eqb y 1) (eq-eqb x 1 is) (eq-eqb y 1 is')))
at_or_after x y xs ys m (suc k) low is is' = inr (k, omega (arith, low), is, is')

met : (m : Bool) (xs ys : List ℕ) → length xs ≡ length ys → Decides (fold meets m (zip xs ys)) ((m ≡ true) ⊎ Met xs ys)
met m [] ys same = (inl, λ h. ⊎_elim (λ e. e) (λ there. absurd (omega (arith, there.1))) h)
met m (x ∷ xs) [] same = absurd (omega (arith, same))
met m (x ∷ xs) (y ∷ ys) same =
    let later = met (m || both (x, y)) xs ys (omega (arith, same)) in (
      λ e.
          ⊎_elim
          (λ (now : (m || both (x, y)) ≡ true).
          ⊎_elim inl
          (λ (here : both (x, y) ≡ true). let b = and_parts (eqb x 1) (eqb y 1) here in inr (0, omega arith, eqb-true x 1 b.0, eqb-true y 1 b.1))
          (or_cases m (both (x, y)) now))
          (λ (there : Met xs ys). inr (suc there.0, omega (arith, there.1), there.2, there.3))
          (later.0 e),
      λ h.
          ⊎_elim
          (λ (e : m ≡ true). later.1 (inl (or_left m (both (x, y)) e)))
          (λ (there : Met (x ∷ xs) (y ∷ ys)). later.1 (at_or_after x y xs ys m there.0 there.1 there.2 there.3))
          h,
    )

-- a column at which the second is 1 if the first is, and the other way round
kept_from : (x y : ℕ) → kept_too (x, y) ≡ true → x ≡ 1 → y ≡ 1
kept_from x y kept is =
    ⊎_elim
    (λ (other : not (eqb x 1) ≡ true). absurd (true≢false (sym other ∙ ap not (eq-eqb x 1 is))))
    (λ (here : eqb y 1 ≡ true). eqb-true y 1 here)
    (or_cases (not (eqb x 1)) (eqb y 1) kept)

kept_by : (x y : ℕ) → (x ≡ 1 → y ≡ 1) → kept_too (x, y) ≡ true
kept_by x y then =
    ⊎_elim
    (λ (is : eqb x 1 ≡ true). or_right (not (eqb x 1)) (eqb y 1) (eq-eqb y 1 (then (eqb-true x 1 is))))
    (λ (other : eqb x 1 ≡ false). or_left (not (eqb x 1)) (eqb y 1) (ap not other))
    (cases_Bool (eqb x 1))

within_more : (x y : ℕ) (xs ys : List ℕ) → kept_too (x, y) ≡ true → Within xs ys → Within (x ∷ xs) (y ∷ ys)
within_more x y xs ys kept later zero low = kept_from x y kept
within_more x y xs ys kept later (suc k) low = later k (omega (arith, low))

within : (m : Bool) (xs ys : List ℕ) → length xs ≡ length ys → Decides (fold keeps m (zip xs ys)) ((m ≡ true) × Within xs ys)
within m [] ys same = (λ e. (e, λ k low. absurd (omega (arith, low))), λ h. h.0)
within m (x ∷ xs) [] same = absurd (omega (arith, same))
within m (x ∷ xs) (y ∷ ys) same =
    let later = within (m && kept_too (x, y)) xs ys (omega (arith, same)) in (
      λ e.
          let h = later.0 e in
          let b = and_parts m (kept_too (x, y)) h.0 in
          (b.0, within_more x y xs ys b.1 h.1),
      λ h. later.1 (and_from m (kept_too (x, y)) h.0 (kept_by x y (h.1 0 (omega arith))), λ k low. h.1 (suc k) (omega (arith, low))),
    )

-- the bytes of a row
abbrev pub RowOf : PairTable → ℕ → List ℕ → Type 0
RowOf table i xs = (y : ℕ) → y < 128 → eqb (get_or xs y 0) 1 ≡ kept_pairs table i y

module _ (table other : PairTable) (i j : ℕ) (xs ys : List ℕ) (long : length xs ≡ 128) (long' : length ys ≡ 128) (row : RowOf table i xs) (row' : RowOf other j ys) (r : Bool) where
  stands : (k : ℕ) → k < 128 → get_or xs k 0 ≡ 1 → Has (kept_pairs table) i k
  stands k low is = sym (row k low) ∙ eq-eqb (get_or xs k 0) 1 is

  stands' : (k : ℕ) → k < 128 → get_or ys k 0 ≡ 1 → Has (kept_pairs other) j k
  stands' k low is = sym (row' k low) ∙ eq-eqb (get_or ys k 0) 1 is

  is_one : (k : ℕ) → Has (kept_pairs table) i k → get_or xs k 0 ≡ 1
  is_one k has = eqb-true (get_or xs k 0) 1 (row k (kept_small table i k has).1 ∙ has)

  is_one' : (k : ℕ) → Has (kept_pairs other) j k → get_or ys k 0 ≡ 1
  is_one' k has = eqb-true (get_or ys k 0) 1 (row' k (kept_small other j k has).1 ∙ has)

  pub rows_met : r ≡ fold meets false (zip xs ys) → Decides r ((y : ℕ) × (kept_pairs table i y ≡ true) × (kept_pairs other j y ≡ true))
  rows_met is =
      let told = met false xs ys (omega arith) in (
        λ e.
            ⊎_elim
            (λ (never : false ≡ true). absurd (true≢false (sym never)))
            (λ (there : Met xs ys). (there.0, stands there.0 (omega (arith, there.1)) there.2, stands' there.0 (omega (arith, there.1)) there.3))
            (told.0 (sym is ∙ e)),
        λ h. is ∙ told.1 (inr (h.0, omega (arith, (kept_small table i h.0 h.1).1), is_one h.0 h.1, is_one' h.0 h.2)),
      )

  pub row_kept : r ≡ fold keeps true (zip xs ys) → Decides r (RowWithin (kept_pairs table) i (kept_pairs other) j)
  row_kept is =
      let told = within true xs ys (omega arith) in (
        λ e y has. let low = (kept_small table i y has).1 in stands' y low ((told.0 (sym is ∙ e)).1 y (omega (arith, low)) (is_one y has)),
        λ h. is ∙ told.1 (refl, λ k low one. is_one' k (h k (stands k (omega (arith, low)) one))),
      )
