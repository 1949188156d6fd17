-- Rows that are put into a buffer: none, one row, and rows behind rows.
use Rattle.std.proofs.Common.{◌≡◌, ℕ, ◌+◌, ◌*◌, ◌≤◌, List, [], ◌∷◌, ◌++◌, length, take, drop, set, sym, refl, ap, ◌∙◌, add-one, arith}
use Rattle.std.proofs.lemmas.List.{append_assoc, length-append, length-take-le, take-append-drop, take_at}
use Rattle.std.proofs.lemmas.List.Edits.{sets-eq}
use Rattle.std.proofs.lemmas.Slice.{drop-append-drop}
use Rattle.pairs.specs.Writing.{row_bytes}
use Rattle.pairs.specs.Placing.{Placed}

pub length_rows : (xs : List (ℕ × ℕ)) → length (row_bytes xs) ≡ 2 * length xs
length_rows [] = refl
length_rows (x ∷ xs) = omega (arith, length_rows xs)

rows_append : (xs ys : List (ℕ × ℕ)) → row_bytes (xs ++ ys) ≡ row_bytes xs ++ row_bytes ys
rows_append [] ys = refl
rows_append (x ∷ xs) ys = ap (λ bs. x.0 ∷ x.1 ∷ bs) (rows_append xs ys)

pub placed_none : (before : List ℕ) (at : ℕ) → Placed [] before before at at
placed_none before at = record { ends = omega arith; bytes_are = sym (take-append-drop at before) }

pub placed_one : (before : List ℕ) (at s t : ℕ) → at + 2 ≤ length before → Placed ((s, t) ∷ []) before (set (set before at s) (at + 1) t) at (at + 2)
placed_one before at s t room =
    record {
      ends = refl;
      bytes_are =
          ap (λ i. set (set before at s) i t) (add-one at)
          ∙ sets-eq (s ∷ t ∷ []) before at room
          ∙ append_assoc (take at before) (s ∷ t ∷ []) (drop (at + 2) before);
    }

-- what stands before the end of the rows, and what behind it
module _ (xs : List (ℕ × ℕ)) (before mid : List ℕ) (from at : ℕ) (room : from ≤ length before) (placed : Placed xs before mid from at) where
  length_front : length (take from before ++ row_bytes xs) ≡ at
  length_front = rw (length-append, length-take-le from before room, length_rows xs) (sym placed.ends)

  mid_is : mid ≡ (take from before ++ row_bytes xs) ++ drop at before
  mid_is = placed.bytes_are ∙ sym (append_assoc (take from before) (row_bytes xs) (drop at before))

  take_front : take at mid ≡ take from before ++ row_bytes xs
  take_front = ap (take at) mid_is ∙ take_at (take from before ++ row_bytes xs) (drop at before) at length_front

  drop_behind : (to : ℕ) → at ≤ to → drop to mid ≡ drop to before
  drop_behind to low = ap (drop to) mid_is ∙ drop-append-drop at before (take from before ++ row_bytes xs) to low length_front

  pub placed_more : (ys : List (ℕ × ℕ)) (after : List ℕ) (to : ℕ) → Placed ys mid after at to → Placed (xs ++ ys) before after from to
  placed_more ys after to next =
      let low : at ≤ to = omega (arith, next.ends) in
      record {
        ends = rw length-append (omega (arith, placed.ends, next.ends));
        bytes_are =
            next.bytes_are
            ∙ ap (λ bs. bs ++ (row_bytes ys ++ drop to mid)) take_front
            ∙ ap (λ bs. (take from before ++ row_bytes xs) ++ (row_bytes ys ++ bs)) (drop_behind to low)
            ∙ append_assoc (take from before) (row_bytes xs) (row_bytes ys ++ drop to before)
            ∙ ap (λ bs. take from before ++ bs) (sym (append_assoc (row_bytes xs) (row_bytes ys) (drop to before)))
            ∙ ap (λ bs. take from before ++ (bs ++ drop to before)) (sym (rows_append xs ys));
      }
