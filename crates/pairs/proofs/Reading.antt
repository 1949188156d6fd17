-- A file whose rows are the listing of a set is read as that set.
use Rattle.std.proofs.Common.{◌≡◌, ℕ, zero, suc, ◌+◌, ◌-◌, ◌*◌, ◌<◌, ◌≤◌, true, false, eqb, ltb, List, [], ◌∷◌, ◌++◌, length, get_or, sym, refl, ap, ◌∙◌, subst, ⊎_elim, arith}
use mathlib.Core.Path.{fun_ext}
use Rattle.std.proofs.lemmas.List.{get_or-append-add, length-append}
use Rattle.std.proofs.lemmas.Bool.{cases_lt, and_parts, and_from, and_left, and_right, or_cases, or_left, or_right, not_from_true, eqb-true, ltb-true, eq-eqb, lt-ltb, le-ltb, le-leb, both_ways}
use Rattle.std.proofs.lemmas.Bool.Decides.{same_from_decides}
use Rattle.layout.specs.Bytes.{byte_at}
use Rattle.pairs.specs.declared.table.PairTable.{PairTable}
use Rattle.pairs.specs.Pairs.{Pairs, is_pair, fits_table, kept_pairs}
use Rattle.pairs.specs.Listing.{Earlier, first_at, second_at, listing, pair_count, Lists}
use Rattle.pairs.specs.PairFile.{count_in, rows_in, first_in, second_in, before, rows_up_to, pairs_in, InOrder, FramePasses}
use Rattle.pairs.specs.Writing.{row_bytes, header_bytes, pair_file, ReadAs, ReadsBack}
use Rattle.pairs.proofs.Ascending.{lists_all}
use Rattle.pairs.proofs.Files.{asked_on}
use Rattle.pairs.proofs.Listed.{cases_le, count_listed, count_length}
use Rattle.pairs.proofs.Placed.{length_rows}
use Rattle.pairs.proofs.Wholes.{file_is}

-- the pairs of a file are those of its rows
module _ (b : List ℕ) where
  row_stands : (k i : ℕ) → i < k → rows_up_to b k (first_in b i) (second_in b i) ≡ true
  row_stands zero i low = absurd (omega arith)
  row_stands (suc k) i low =
      ⊎_elim
      (λ (last : i ≡ k).
      or_left (is_pair (first_in b k) (second_in b k) (first_in b i) (second_in b i)) _
      (and_from _ _ (eq-eqb _ _ (ap (first_in b) last)) (eq-eqb _ _ (ap (second_in b) last))))
      (λ (lower : i < k). or_right (is_pair (first_in b k) (second_in b k) (first_in b i) (second_in b i)) _ (row_stands k i lower))
      (cases_le i k (omega arith))

  pub rows_stand : (i : ℕ) → i < count_in b → pairs_in b (first_in b i) (second_in b i) ≡ true
  rows_stand i low = row_stands (count_in b) i low

  pub row_found : (k x y : ℕ) → rows_up_to b k x y ≡ true → (i : ℕ) × (i < k) × (first_in b i ≡ x) × (second_in b i ≡ y)
  row_found zero x y stands = absurd (both_ways false refl stands)
  row_found (suc k) x y stands =
      ⊎_elim
      (λ (here : is_pair (first_in b k) (second_in b k) x y ≡ true).
      let both = and_parts (eqb x (first_in b k)) (eqb y (second_in b k)) here in
      (k, omega arith, sym (eqb-true x (first_in b k) both.0), sym (eqb-true y (second_in b k) both.1)))
      (λ (lower : rows_up_to b k x y ≡ true).
      let there = row_found k x y lower in
      (there.0, omega (arith, there.1), there.2, there.3))
      (or_cases (is_pair (first_in b k) (second_in b k) x y) (rows_up_to b k x y) stands)

-- the file has this list for its rows, behind a proper header
record RowsAre (xs : List (ℕ × ℕ)) (b : List ℕ) : Type 0 where
  sign_first : byte_at b 0 ≡ 0x52
  sign_second : byte_at b 1 ≡ 0x4C
  as_many : count_in b ≡ length xs
  behind_header : rows_in b ≡ 6
  all_there : 6 + 2 * length xs ≤ length b
  firsts : (i : ℕ) → i < length xs → first_in b i ≡ first_at xs i
  seconds : (i : ℕ) → i < length xs → second_in b i ≡ second_at xs i

-- the bytes of row i
first_byte : (xs : List (ℕ × ℕ)) (more : List ℕ) (i : ℕ) → i < length xs → get_or (row_bytes xs ++ more) (2 * i) 0 ≡ first_at xs i
first_byte [] more i low = absurd (omega arith)
first_byte (x ∷ xs) more zero low = refl
first_byte (x ∷ xs) more (suc i) low =
    let next : 2 * suc i ≡ suc (suc (2 * i)) = omega arith in
    ap (λ k. get_or (row_bytes (x ∷ xs) ++ more) k 0) next ∙ first_byte xs more i (omega arith)

second_byte : (xs : List (ℕ × ℕ)) (more : List ℕ) (i : ℕ) → i < length xs → get_or (row_bytes xs ++ more) (2 * i + 1) 0 ≡ second_at xs i
second_byte [] more i low = absurd (omega arith)
second_byte (x ∷ xs) more zero low = refl
second_byte (x ∷ xs) more (suc i) low =
    let next : 2 * suc i + 1 ≡ suc (suc (2 * i + 1)) = omega arith in
    ap (λ k. get_or (row_bytes (x ∷ xs) ++ more) k 0) next ∙ second_byte xs more i (omega arith)

rows_are : (xs : List (ℕ × ℕ)) (more : List ℕ) → RowsAre xs ((header_bytes (length xs) ++ row_bytes xs) ++ more)
rows_are xs more =
    record {
      sign_first = refl;
      sign_second = refl;
      as_many = omega arith;
      behind_header = refl;
      all_there = omega (arith, length-append (row_bytes xs) more, length_rows xs);
      firsts = λ i low. get_or-append-add (header_bytes (length xs)) (row_bytes xs ++ more) (2 * i) 0 ∙ first_byte xs more i low;
      seconds = λ i low.
          let next : 6 + 2 * i + 1 ≡ 6 + (2 * i + 1) = omega arith in
          ap (λ k. get_or (header_bytes (length xs) ++ (row_bytes xs ++ more)) k 0) next
          ∙ get_or-append-add (header_bytes (length xs)) (row_bytes xs ++ more) (2 * i + 1) 0
          ∙ second_byte xs more i low;
    }

-- of two pairs in order the test says so
before_from : (f t g u : ℕ) → Earlier f t g u → before f t g u ≡ true
before_from f t g u earlier =
    ⊎_elim
    (λ (low : f < g). or_left (ltb f g) _ (lt-ltb f g low))
    (λ same. or_right (ltb f g) _ (and_from _ _ (eq-eqb f g same.0) (lt-ltb t u same.1)))
    earlier

module _ (pairs : Pairs) (xs : List (ℕ × ℕ)) (b : List ℕ) (lists : Lists pairs xs) (file : RowsAre xs b) where
  -- the rows of the file ascend, since the list does
  rows_ascend : (i j : ℕ) → i < j → j < length xs → before (first_in b i) (second_in b i) (first_in b j) (second_in b j) ≡ true
  rows_ascend i j low low' =
      let low'' : i < length xs = omega arith in
      rw (file.firsts i low'', file.seconds i low'', file.firsts j low', file.seconds j low')
      (before_from (first_at xs i) (second_at xs i) (first_at xs j) (second_at xs j) (lists.ascends i j low low'))

  in_order : InOrder b (count_in b)
  in_order i low =
      ⊎_elim
      (λ (later : 0 < i).
      and_right (ltb 0 i) _ (not_from_true _ (rows_ascend (i - 1) i (omega arith) (omega (arith, file.as_many)))))
      (λ (none : i ≤ 0). and_left (ltb 0 i) _ (le-ltb 0 i none))
      (cases_lt 0 i)

  frame : length xs ≤ 16384 → length b ≤ 40000 → FramePasses b
  frame few short =
      record {
        length_passes = and_from _ _ (le-leb 6 (length b) (omega (arith, file.all_there))) (le-leb (length b) 40000 short);
        sign_passes = and_from _ _ (eq-eqb _ _ file.sign_first) (eq-eqb _ _ file.sign_second);
        count_passes = le-leb (count_in b) 16384 (omega (arith, file.as_many));
        rows_pass = and_from _ _ (le-leb 6 (rows_in b) (omega (arith, file.behind_header))) (le-leb _ _ (omega (arith, file.behind_header, file.as_many, file.all_there)));
      }

  -- a row of the file is a pair of the set, and each pair of the set is a row
  row_of : (x y : ℕ) → pairs_in b x y ≡ true → pairs x y ≡ true
  row_of x y stands =
      let row = row_found b (count_in b) x y stands in
      let low : row.0 < length xs = omega (arith, row.1, file.as_many) in
      subst (λ s. pairs s y ≡ true) (sym (file.firsts row.0 low) ∙ row.2)
      (subst (λ t. pairs (first_at xs row.0) t ≡ true) (sym (file.seconds row.0 low) ∙ row.3)
      (lists.each_stands row.0 low).2)

  pair_of : (x y : ℕ) → x < 128 → y < 128 → pairs x y ≡ true → pairs_in b x y ≡ true
  pair_of x y low low' stands =
      let place = lists.each_listed x y low low' stands in
      subst (λ s. pairs_in b s y ≡ true) (file.firsts place.0 place.1 ∙ place.2)
      (subst (λ t. pairs_in b (first_in b place.0) t ≡ true) (file.seconds place.0 place.1 ∙ place.3)
      (rows_stand b place.0 (omega (arith, place.1, file.as_many))))

  read_as : length xs ≤ 16384 → length b ≤ 40000 → length xs ≡ pair_count pairs → ((x y : ℕ) → pairs x y ≡ true → (x < 128) × (y < 128)) → ReadAs pairs b
  read_as few short count small =
      record {
        passes = asked_on b (frame few short) in_order;
        as_many = file.as_many ∙ count;
        same_pairs = fun_ext (λ x. fun_ext (λ y.
            same_from_decides (pairs_in b x y) (pairs x y) (row_of x y, λ stands. pair_of x y (small x y stands).0 (small x y stands).1 stands) (λ stands. stands, λ stands. stands)));
      }

-- the file of a set whose states are below 128 is read as that set
pub reads_back : (pairs : Pairs) → ((x y : ℕ) → pairs x y ≡ true → (x < 128) × (y < 128)) → ReadsBack pairs
reads_back pairs small more short =
    let count = count_listed pairs in
    let is : pair_file pairs ≡ header_bytes (length (listing pairs)) ++ row_bytes (listing pairs) = file_is pairs ∙ ap (λ n. header_bytes n ++ row_bytes (listing pairs)) count in
    read_as pairs (listing pairs) (pair_file pairs ++ more) (lists_all pairs)
    (subst (λ f. RowsAre (listing pairs) (f ++ more)) (sym is) (rows_are (listing pairs) more))
    (omega (arith, count, count_length pairs)) short (sym count) small

-- the states of the pairs that a table keeps are below 128
pub kept_small : (table : PairTable) (x y : ℕ) → kept_pairs table x y ≡ true → (x < 128) × (y < 128)
kept_small table x y stands =
    let fits = and_parts (ltb x 128) (ltb y 128) (and_parts (fits_table x y) _ stands).0 in
    (ltb-true x 128 fits.0, ltb-true y 128 fits.1)
