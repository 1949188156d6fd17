-- Loading a pair file, row by row.
use Rattle.std.proofs.Common.{◌≡◌, ℕ, zero, suc, ◌+◌, ◌<◌, ◌≤◌, true, false, cond, eqb, ltb, List, is_some, Some, None, sym, refl, ap, ◌∙◌, subst, add-one, arith}
use Rattle.std.proofs.lemmas.Bool.{lt-ltb, both_ways}
use Rattle.plan.specs.Answers.{success}
use Rattle.layout.specs.Lowest.{lowest}
use Rattle.layout.proofs.LowestOf.{lowest_is, lowest_none}
use Rattle.pairs.specs.declared.file.PairFile.{PairFile}
use Rattle.pairs.specs.Pairs.{Pairs, with_pair, fits_table}
use Rattle.pairs.specs.PairFile.{count_in, first_in, second_in, rows_up_to, pairs_in}
use Rattle.pairs.specs.Opened.{HeaderOf}
use Rattle.pairs.proofs.Files.{asked_on}
use Rattle.comparison.specs.declared.refusal.PairRefusal.TheVariants.{NoState, Unmarked}
use Rattle.comparison.specs.declared.refusal.LoadRefusal.{LoadRefusal}
use Rattle.comparison.specs.declared.refusal.LoadRefusal.TheVariants.{BadFile, BadRow}
use Rattle.comparison.specs.Settings.{Setting, OnlyMarked}
use Rattle.comparison.specs.Calls.{row_refused, rows_asked, row_numbers, load_refusal_numbers, load_answer, after_load}
use Rattle.comparison.specs.Loading.{RowsAllowed, RefusedRow, RowsFit}
use Rattle.comparison.proofs.Changes.{allowed, allowed_fits, marked_with}

-- one row more in the table
pub fill_more : (b : List ℕ) (i : ℕ) (row : ℕ × ℕ) (old new : Pairs) → i < count_in b
    → row ≡ cond (ltb i (count_in b)) (first_in b i, second_in b i) (0, 0)
    → fits_table (first_in b i) (second_in b i) ≡ true
    → old ≡ rows_up_to b i → new ≡ cond (fits_table row.0 row.1) (with_pair old row.0 row.1) old → new ≡ rows_up_to b (i + 1)
fill_more b i row old new low row_is fits old_is new_is =
    let here : row ≡ (first_in b i, second_in b i) = rw (lt-ltb i (count_in b) low) at row_is in
    new_is ∙ rw (here, fits, old_is) (ap (rows_up_to b) (sym (add-one i)))

-- rows that are allowed fit the table, and join only marked states
module _ (setting : Setting) (b : List ℕ) where
  pub rows_fit_table : setting.first.states ≤ 128 → setting.second.states ≤ 128 → (k : ℕ) → RowsAllowed setting b k → RowsFit b k
  rows_fit_table few few' k rows i low =
      allowed_fits setting (first_in b i) (second_in b i) few few' (allowed setting (first_in b i) (second_in b i) (rows i low))

  up_to_marked : (k : ℕ) → RowsAllowed setting b k → OnlyMarked setting (rows_up_to b k)
  up_to_marked zero rows x y e = absurd (both_ways false refl e)
  up_to_marked (suc i) rows x y e =
      marked_with setting (rows_up_to b i) (first_in b i) (second_in b i) (allowed setting (first_in b i) (second_in b i) (rows i (omega arith)))
      (up_to_marked i (λ j low. rows j (omega arith))) x y e

  pub rows_marked : (pairs : Pairs) → pairs ≡ pairs_in b → RowsAllowed setting b (count_in b) → OnlyMarked setting pairs
  rows_marked pairs is rows = subst (OnlyMarked setting) (sym is) (up_to_marked (count_in b) rows)

-- what loading answers and leaves, from what was found in the opened file
module _ (setting : Setting) (b : List ℕ) (file : PairFile) (header : HeaderOf b file) (pairs : Pairs) where
  -- all rows are allowed
  pub load_accepted : RowsAllowed setting file.bytes.now (count_in file.bytes.now) → load_answer setting b ≡ success (count_in file.bytes.now) 0
  load_accepted rows =
      let allowed_rows : RowsAllowed setting b (count_in b) = rw header.bytes_are at rows in
      let none : lowest (λ i. is_some (row_refused setting b i)) (count_in b) ≡ None =
      lowest_none (λ i. is_some (row_refused setting b i)) (count_in b) (λ i low. ap is_some (allowed_rows i low)) in
      rw header.bytes_are (asked_on b header.frame header.in_order _ ∙ ap (rows_asked setting b) none)

  pub pairs_loaded : RowsAllowed setting file.bytes.now (count_in file.bytes.now) → pairs_in file.bytes.now ≡ after_load setting pairs b
  pairs_loaded rows = rw (load_accepted rows, header.bytes_are) refl

  -- a row is refused
  row_refused_answer : (refusal : LoadRefusal) → RefusedRow setting b refusal → load_answer setting b ≡ load_refusal_numbers refusal
  row_refused_answer (BadFile refusal) none = absurd none
  row_refused_answer (BadRow row refusal) low =
      let at : lowest (λ i. is_some (row_refused setting b i)) (count_in b) ≡ Some row =
      lowest_is (λ i. is_some (row_refused setting b i)) (count_in b) row
      (record { below = low.is_row; passes = ap is_some low.is_refused; none_lower = λ k h. ap is_some (low.earlier_allowed k h) }) in
      asked_on b header.frame header.in_order _
      ∙ ap (rows_asked setting b) at
      ∙ ap (λ o. row_numbers o row (success (count_in b) 0)) low.is_refused

  pub load_refused : (refusal : LoadRefusal) → RefusedRow setting file.bytes.now refusal → load_answer setting b ≡ load_refusal_numbers refusal
  load_refused refusal low = row_refused_answer refusal (rw header.bytes_are at low)

  -- a refused row is no success
  no_success : (refusal : LoadRefusal) → RefusedRow setting file.bytes.now refusal → eqb (load_refusal_numbers refusal).number 0 ≡ false
  no_success (BadFile refusal) none = absurd none
  no_success (BadRow row (NoState side)) low = refl
  no_success (BadRow row (Unmarked side)) low = refl

  pub pairs_kept : (refusal : LoadRefusal) → RefusedRow setting file.bytes.now refusal → pairs ≡ after_load setting pairs b
  pairs_kept refusal low = rw (load_refused refusal low, no_success refusal low) refl
