-- A whole pair file is written: its length, and the header with the rows behind it.
use Rattle.std.proofs.Common.{◌≡◌, ℕ, ◌+◌, ◌*◌, ◌<◌, ◌≤◌, List, ◌++◌, length, take, drop, sym, refl, ap, ◌∙◌, arith}
use Rattle.std.proofs.lemmas.List.{length-append}
use Rattle.std.proofs.lemmas.Slice.{drop-append-drop}
use Rattle.pairs.specs.Pairs.{Pairs}
use Rattle.pairs.specs.Listing.{listing, pair_count}
use Rattle.pairs.specs.Writing.{row_bytes, header_bytes, pair_file, Written, NotWritten}
use Rattle.pairs.specs.Placing.{Placed}
use Rattle.pairs.proofs.Listed.{count_listed}
use Rattle.pairs.proofs.Placed.{length_rows}

module _ (pairs : Pairs) where
  pub file_is : pair_file pairs ≡ header_bytes (pair_count pairs) ++ row_bytes (listing pairs)
  unfolding pair_file
  file_is = refl

  pub file_length : length (pair_file pairs) ≡ 6 + 2 * pair_count pairs
  file_length =
      ap length file_is
      ∙ length-append (header_bytes (pair_count pairs)) (row_bytes (listing pairs))
      ∙ ap (λ n. 6 + n) (length_rows (listing pairs) ∙ ap (λ n. 2 * n) (sym (count_listed pairs)))

  pub not_written : (before : List ℕ) (count : ℕ) → count ≡ pair_count pairs → length before < 6 + 2 * count → NotWritten (pair_file pairs) before before (6 + 2 * count)
  not_written before count is short =
      record {
        too_short = omega (arith, file_length);
        tells = omega (arith, file_length);
        untouched = refl;
      }

  pub written : (before mid after : List ℕ) (count to : ℕ) → count ≡ pair_count pairs → 6 + 2 * count ≤ length before
      → mid ≡ header_bytes count ++ drop 6 before → Placed (listing pairs) mid after 6 to → Written (pair_file pairs) before after to
  written before mid after count to is room header rows =
      let ends : to ≡ length (pair_file pairs) = omega (arith, file_length, rows.ends, count_listed pairs) in
      let behind : drop to mid ≡ drop to before = ap (drop to) header ∙ drop-append-drop 6 before (header_bytes count) to (omega (arith, rows.ends)) refl in
      record {
        enough = omega (arith, file_length);
        told = ends;
        bytes_are =
            rows.bytes_are
            ∙ ap (λ bs. take 6 bs ++ (row_bytes (listing pairs) ++ drop to mid)) header
            ∙ ap (λ bs. header_bytes count ++ (row_bytes (listing pairs) ++ bs)) behind
            ∙ ap (λ n. header_bytes n ++ (row_bytes (listing pairs) ++ drop to before)) is
            ∙ ap (λ n. (header_bytes (pair_count pairs) ++ row_bytes (listing pairs)) ++ drop n before) ends
            ∙ ap (λ bs. bs ++ drop (length (pair_file pairs)) before) (sym file_is);
      }
