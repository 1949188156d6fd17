-- One row after the other: what is kept of a file's rows, and the first row that is refused.
use Rattle.std.proofs.Common.{◌≡◌, ℕ, ◌+◌, ◌<◌, ◌≤◌, Bool, true, false, cond, not, ltb, ◌≢◌, List, length, get_or, set, replicate, Some, None, sym, refl, ap, ◌∙◌, ⊎_elim, arith, below_more}
use Rattle.std.proofs.lemmas.List.{get_or_past, get_or-replicate, length-replicate, length-set, get_or-set_same, get_or-set_other}
use Rattle.std.proofs.lemmas.Bool.{cases_lt, cases_eq, le-ltb, lt-ltb}
use Rattle.std.proofs.lemmas.Bool.Decides.{nat_tests}
use Rattle.layout.specs.Questions.{HeaderPasses, RowsPass}
use Rattle.layout.specs.declared.refusal.FileRefusal.TheVariants.{Row as RowRefused}
use Rattle.layout.proofs.Asked.{refused_row}
use Rattle.table.specs.declared.row.Row.{Row}
use Rattle.table.specs.Layout.{proper_at, row_place, states_in, table_questions}
use Rattle.table.specs.Rows.{blank, kept_row}
use Rattle.table.specs.Opening.{RowsRead, Refused}

-- what `Row::read` says of a row, by what it gave
pub given_none : (b : Bool) (x : Row) → None ≡ cond b (Some x) None → b ≡ false
given_none true x e = let z : ◌≡◌ {A = ℕ} 0 1 = cc in absurd (omega arith)
given_none false x e = refl

pub given_some : (b : Bool) (x y : Row) → Some y ≡ cond b (Some x) None → (b ≡ true) × (y ≡ x)
given_some true x y e = (refl, cc)
given_some false x y e = let z : ◌≡◌ {A = ℕ} 0 1 = cc in absurd (omega arith)

-- before the first row
pub rows_none : (b : List ℕ) → RowsRead b 0 (replicate 128 blank)
rows_none b = record {
  kept = record {
    long = length-replicate 128 blank;
    each = λ s.
        let past : ltb s 0 ≡ false = le-ltb s 0 (omega arith) in
        let is_blank : get_or (replicate 128 blank) s blank ≡ blank =
        ⊎_elim
        (λ (low : s < 128). get_or-replicate 128 s blank blank low)
        (λ (high : 128 ≤ s). get_or_past (replicate 128 blank) s blank (rw length-replicate high))
        (cases_lt s 128) in
        is_blank ∙ sym (ap (λ t. cond t (kept_row b (row_place b s)) blank) past);
  };
  proper_rows = λ row h. absurd (omega (arith, h));
}

-- one row more
pub rows_more :
    (b : List ℕ) (i : ℕ) (rows : List Row) (row : Row) → RowsRead b i rows → i < 128
    → Some row ≡ cond (proper_at b (row_place b i)) (Some (kept_row b (row_place b i))) None
    → RowsRead b (i + 1) (set rows i row)
rows_more b i rows row read small given =
    let is : (proper_at b (row_place b i) ≡ true) × (row ≡ kept_row b (row_place b i)) = given_some _ _ row given in
    let within : i < length rows = omega (arith, read.kept.long) in
    record {
      kept = record {
        long = length-set rows i row ∙ read.kept.long;
        each = λ s.
            ⊎_elim
            (λ (here : s ≡ i).
            let below : ltb s (i + 1) ≡ true = lt-ltb s (i + 1) (omega arith) in
            let stored : get_or (set rows i row) s blank ≡ row =
            ap (λ k. get_or (set rows i row) k blank) here ∙ get_or-set_same rows i row blank within in
            let kept_here : row ≡ kept_row b (row_place b s) = is.1 ∙ ap (λ k. kept_row b (row_place b k)) (sym here) in
            stored ∙ kept_here ∙ sym (ap (λ t. cond t (kept_row b (row_place b s)) blank) below))
            (λ (other : s ≢ i).
            let alike : ltb s i ≡ ltb s (i + 1) = grind (arith, nat_tests) in
            get_or-set_other rows i s row blank other ∙ read.kept.each s ∙ ap (λ t. cond t (kept_row b (row_place b s)) blank) alike)
            (cases_eq s i);
      };
      proper_rows = below_more _ _ read.proper_rows (ap not is.0);
    }

-- the first row that is improper
pub row_refused :
    (b : List ℕ) (i : ℕ) → HeaderPasses (table_questions b) → i < states_in b → RowsPass (table_questions b) i
    → proper_at b (row_place b i) ≡ false → Refused b (RowRefused i)
row_refused b i passes below earlier improper =
    sym
    (refused_row (table_questions b) passes i
    (record { below = below; passes = ap not improper; none_lower = earlier }))
