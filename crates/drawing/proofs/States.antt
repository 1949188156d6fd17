-- State rows, one after the other.
use Rattle.std.proofs.Common.{◌≡◌, ℕ, zero, suc, ◌+◌, ◌<◌, ◌≤◌, Bool, true, false, cond, not, ◌&&◌, ◌||◌, eqb, ltb, leb, ◌≢◌, List, [], ◌∷◌, length, get_or, set, replicate, sym, refl, ap, ◌∙◌, ⊎_elim, arith, below_more}
use Rattle.std.specs.List.{list_all}
use Rattle.std.proofs.lemmas.List.{get_or_past, get_or-replicate, length-replicate, length-set, get_or-set_same, get_or-set_other}
use Rattle.std.proofs.lemmas.Bool.{cases_lt, cases_eq, le-ltb, lt-ltb, and_parts, and_from, eqb-true, eq-eqb}
use Rattle.std.proofs.lemmas.Bool.Decides.{nat_tests, same_from_decides, Decides-like, Decides-below_and, Decides-eqb}
use Rattle.layout.specs.Questions.{HeaderPasses, RowsPass}
use Rattle.layout.specs.declared.refusal.FileRefusal.TheVariants.{Row as RowRefused}
use Rattle.layout.proofs.Asked.{refused_row}
use Rattle.drawing.specs.declared.state.State.{State}
use Rattle.drawing.specs.Layout.{states_in, channels_in, state_place, mark_at, code_at, silent_at, proper_at, drawing_questions}
use Rattle.drawing.specs.Stored.{blank}
use Rattle.drawing.specs.Opening.{CodesRead, StateRead, StatesRead, Refused}

-- what a list made of n equal entries holds, with the same default
pub replicated : {X : Type 0} (n s : ℕ) (x : X) → get_or (replicate n x) s x ≡ x
replicated n s x =
    ⊎_elim
    (λ (low : s < n). get_or-replicate n s x x low)
    (λ (high : n ≤ s). get_or_past (replicate n x) s x (rw length-replicate high))
    (cases_lt s n)

-- all elements are 0: then each is, also behind the last one
zeros : (xs : List ℕ) (k : ℕ) → list_all (λ x. eqb x 0) xs ≡ true → get_or xs k 0 ≡ 0
zeros [] k all = refl
zeros (x ∷ xs) zero all = eqb-true x 0 (and_parts (eqb x 0) (list_all (λ x. eqb x 0) xs) all).0
zeros (x ∷ xs) (suc k) all = zeros xs k (and_parts (eqb x 0) (list_all (λ x. eqb x 0) xs) all).1

from_zeros : (xs : List ℕ) → ((k : ℕ) → get_or xs k 0 ≡ 0) → list_all (λ x. eqb x 0) xs ≡ true
from_zeros [] each = refl
from_zeros (x ∷ xs) each = and_from (eqb x 0) (list_all (λ x. eqb x 0) xs) (eq-eqb x 0 (each 0)) (from_zeros xs (λ k. each (suc k)))

-- a row whose codes are all 0 is silent
pub silent_is : (b : List ℕ) (at c : ℕ) (codes : List ℕ) → CodesRead b at c codes → list_all (λ x. eqb x 0) codes ≡ silent_at b at c
silent_is b at c codes read =
    let there : (k : ℕ) → k < c → get_or codes k 0 ≡ code_at b at k =
    λ k low. read.each_code k ∙ ap (λ t. cond t (code_at b at k) 0) (lt-ltb k c low) in
    let onward : ((k : ℕ) → get_or codes k 0 ≡ 0) → (k : ℕ) → k < c → code_at b at k ≡ 0 = λ all k low. sym (there k low) ∙ all k in
    let back : ((k : ℕ) → k < c → code_at b at k ≡ 0) → (k : ℕ) → get_or codes k 0 ≡ 0 =
    λ all k.
    ⊎_elim
    (λ (low : k < c). there k low ∙ all k low)
    (λ (high : c ≤ k). read.each_code k ∙ ap (λ t. cond t (code_at b at k) 0) (le-ltb k c high))
    (cases_lt k c) in
    same_from_decides (list_all (λ x. eqb x 0) codes) (silent_at b at c)
    (Decides-like (list_all (λ x. eqb x 0) codes) onward back (λ yes k. zeros codes k yes, from_zeros codes))
    (Decides-below_and (λ k. eqb (code_at b at k) 0) (λ k. code_at b at k ≡ 0) (silent_at b at) (λ k. Decides-eqb (code_at b at k) 0) refl (λ _. refl) c)

-- the test that is made of a row is the one that the layout asks for
pub proper_is : (b : List ℕ) (at c mark : ℕ) (codes : List ℕ) (silent : Bool) → mark ≡ mark_at b at → CodesRead b at c codes
    → silent ≡ list_all (λ x. eqb x 0) codes → (leb mark 1 && (eqb mark 1 || silent)) ≡ proper_at b at c
proper_is b at c mark codes silent is read zeros-all =
    ap (λ m. leb m 1 && (eqb m 1 || silent)) is
    ∙ ap (λ z. leb (mark_at b at) 1 && (eqb (mark_at b at) 1 || z)) (zeros-all ∙ silent_is b at c codes read)

-- before the first state row
pub states_none : (b : List ℕ) → StatesRead b 0 (replicate 128 blank)
states_none b = record {
  long = length-replicate 128 blank;
  each_mark = λ s.
      let past : ltb s 0 ≡ false = le-ltb s 0 (omega arith) in
      ap (λ x. x.marked) (replicated 128 s blank) ∙ sym (ap (λ t. t && eqb (mark_at b (state_place b s)) 1) past);
  each_code = λ s k.
      let past : ltb s 0 ≡ false = le-ltb s 0 (omega arith) in
      ap (λ x. get_or x.codes k 0) (replicated 128 s blank)
      ∙ replicated 4 k 0
      ∙ sym (ap (λ t. cond (t && ltb k (channels_in b)) (code_at b (state_place b s) k) 0) past);
  proper_rows = λ row h. absurd (omega (arith, h));
}

-- one state row more
pub states_more :
    (b : List ℕ) (i : ℕ) (rows : List State) (state : State) → StatesRead b i rows → i < 128
    → StateRead b (state_place b i) (channels_in b) state
    → StatesRead b (i + 1) (set rows i state)
states_more b i rows state read small row =
    let within : i < length rows = omega (arith, read.long) in
    let at_i : (s : ℕ) → s ≡ i → get_or (set rows i state) s blank ≡ state =
    λ s here. ap (λ k. get_or (set rows i state) k blank) here ∙ get_or-set_same rows i state blank within in
    record {
      long = length-set rows i state ∙ read.long;
      each_mark = λ s.
          ⊎_elim
          (λ (here : s ≡ i).
          let below : ltb s (i + 1) ≡ true = lt-ltb s (i + 1) (omega arith) in
          ap (λ x. x.marked) (at_i s here)
          ∙ row.mark_read
          ∙ ap (λ j. eqb (mark_at b (state_place b j)) 1) (sym here)
          ∙ sym (ap (λ t. t && eqb (mark_at b (state_place b s)) 1) below))
          (λ (other : s ≢ i).
          let alike : ltb s i ≡ ltb s (i + 1) = grind (arith, nat_tests) in
          ap (λ x. x.marked) (get_or-set_other rows i s state blank other)
          ∙ read.each_mark s
          ∙ ap (λ t. t && eqb (mark_at b (state_place b s)) 1) alike)
          (cases_eq s i);
      each_code = λ s k.
          ⊎_elim
          (λ (here : s ≡ i).
          let below : ltb s (i + 1) ≡ true = lt-ltb s (i + 1) (omega arith) in
          ap (λ x. get_or x.codes k 0) (at_i s here)
          ∙ row.codes_read.each_code k
          ∙ ap (λ j. cond (ltb k (channels_in b)) (code_at b (state_place b j) k) 0) (sym here)
          ∙ sym (ap (λ t. cond (t && ltb k (channels_in b)) (code_at b (state_place b s) k) 0) below))
          (λ (other : s ≢ i).
          let alike : ltb s i ≡ ltb s (i + 1) = grind (arith, nat_tests) in
          ap (λ x. get_or x.codes k 0) (get_or-set_other rows i s state blank other)
          ∙ read.each_code s k
          ∙ ap (λ t. cond (t && ltb k (channels_in b)) (code_at b (state_place b s) k) 0) alike)
          (cases_eq s i);
      proper_rows = below_more _ _ read.proper_rows (ap not row.is_proper);
    }

-- the first state row that is improper
pub row_refused :
    (b : List ℕ) (i : ℕ) → HeaderPasses (drawing_questions b) → i < states_in b → RowsPass (drawing_questions b) i
    → proper_at b (state_place b i) (channels_in b) ≡ false → Refused b (RowRefused i)
row_refused b i passes below earlier improper =
    sym
    (refused_row (drawing_questions b) passes i
    (record { below = below; passes = ap not improper; none_lower = earlier }))
