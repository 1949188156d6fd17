-- The plan that the kept rows stand for is the one that the file's layout describes, and it is lawful.
use Rattle.std.proofs.Common.{◌≡◌, ℕ, ◌+◌, ◌<◌, Bool, true, false, cond, not, ◌&&◌, ◌||◌, eqb, ltb, leb, List, [], ◌∷◌, sym, refl, ap, ◌∙◌, subst, ⊎_elim, arith}
use Rattle.std.specs.List.{AllByRecursion as All}
use Rattle.std.proofs.ByRecursion.{All-get_or}
use Rattle.std.proofs.lemmas.Bool.{and_parts, or_parts, cases_Bool, both_ways, not-false, leb-true, leb-false, ltb-true, le-ltb, eqb-true, eqb-false, ne_eqb}
use Rattle.std.proofs.lemmas.Bool.Decides.{nat_tests}
use Rattle.plan.specs.Model.{Lawful, Distinct}
use Rattle.plan.proofs.Laws.{same_model}
use Rattle.plan.proofs.Lists.{distinct_none, distinct_push}
use Rattle.layout.specs.Bytes.{byte_at, long_at}
use Rattle.layout.specs.Questions.{Passes}
use Rattle.table.specs.declared.row.Row.{Row}
use Rattle.table.specs.declared.row.Steps.TheVariants.{Halt, One, Two}
use Rattle.table.specs.Layout.{flag_set, states_in, start_in, row_place, proper_at, steps_at, table_plan, table_questions}
use Rattle.table.specs.Rows.{stored_plan, step_list, leads_within, blank, kept_row, Kept}

-- one row, by its flags for a first and a second target, and by whether the two are equal
list_of : (f g e : Bool) (t u : ℕ) → step_list (cond f (cond (g && not e) (Two t u) (One t)) Halt) ≡ cond f (cond (g && not e) (t ∷ u ∷ []) (t ∷ [])) []
list_of true true true t u = refl
list_of true true false t u = refl
list_of true false e t u = refl
list_of false g e t u = refl

-- a row leads astray exactly where a kept step does
pub astray_of : (f g : Bool) (n t u : ℕ) → (f || not g) ≡ true
    → ((f && leb n t) || (g && leb n u)) ≡ not (leads_within n (cond f (cond (g && not (eqb t u)) (Two t u) (One t)) Halt))
astray_of false true n t u proper = absurd (both_ways false refl proper)
astray_of false false n t u proper = refl
astray_of true false n t u proper = grind (arith, nat_tests)
astray_of true true n t u proper =
    ⊎_elim
    (λ (same : eqb t u ≡ true). let e = eqb-true t u same in rw same (grind (arith, nat_tests)))
    (λ (other : eqb t u ≡ false). rw other (grind (arith, nat_tests)))
    (cases_Bool (eqb t u))

all_within : (f g e : Bool) (n t u : ℕ) → ((f && leb n t) || (g && leb n u)) ≡ false → All (λ x. x < n) (cond f (cond (g && not e) (t ∷ u ∷ []) (t ∷ [])) [])
all_within false g e n t u h = tt
all_within true false e n t u h = (leb-false n t (or_parts (leb n t) false h).0, tt)
all_within true true true n t u h = (leb-false n t (or_parts (leb n t) (leb n u) h).0, tt)
all_within true true false n t u h =
    let p = or_parts (leb n t) (leb n u) h in
    (leb-false n t p.0, (leb-false n u p.1, tt))

distinct_of : (f g : Bool) (t u : ℕ) → Distinct (cond f (cond (g && not (eqb t u)) (t ∷ u ∷ []) (t ∷ [])) [])
distinct_of false g t u = distinct_none
distinct_of true false t u = distinct_push [] t distinct_none tt
distinct_of true true t u =
    ⊎_elim
    (λ (same : eqb t u ≡ true). rw same (distinct_push [] t distinct_none tt))
    (λ (other : eqb t u ≡ false).
    rw other (distinct_push (t ∷ []) u (distinct_push [] t distinct_none tt) (eqb-false t u other, tt)))
    (cases_Bool (eqb t u))

-- a row that is there, or a blank one
mark_of : (t : Bool) (x : Row) → (cond t x blank).marked ≡ (t && x.marked)
mark_of true x = refl
mark_of false x = refl

code_of : (t z : Bool) (x : Row) → cond z (cond t x blank).code 0 ≡ cond (t && z) x.code 0
code_of true z x = refl
code_of false true x = refl
code_of false false x = refl

steps_of : (t : Bool) (x : Row) → step_list (cond t x blank).steps ≡ cond t (step_list x.steps) []
steps_of true x = refl
steps_of false x = refl

-- t: the state is there, m: it is marked, z: the channel is there
silent_of : (t m z : Bool) (code : ℕ) → (t ≡ true → (m || eqb code 0) ≡ true) → (t && m) ≡ false → cond (t && z) code 0 ≡ 0
silent_of false m z code proper unmarked = refl
silent_of true true z code proper unmarked = absurd (both_ways true unmarked refl)
silent_of true false true code proper unmarked = eqb-true code 0 (proper refl)
silent_of true false false code proper unmarked = refl

past_of : (t z : Bool) (code : ℕ) → z ≡ false → cond (t && z) code 0 ≡ 0
past_of false z code past = refl
past_of true z code past = rw past refl

module _ (b : List ℕ) where
  -- what is kept of all rows stands for the plan of the layout
  pub stored_is : (n start : ℕ) (rows : List Row) → n ≡ states_in b → start ≡ start_in b → Kept b (states_in b) rows
      → stored_plan n start rows ≡ table_plan b
  stored_is n start rows states_read start_read kept =
      same_model (stored_plan n start rows) (table_plan b) states_read start_read refl
      (λ s. ap (λ x. x.marked) (kept.each s) ∙ mark_of (ltb s (states_in b)) (kept_row b (row_place b s)))
      (λ s k. ap (λ x. cond (eqb k 0) x.code 0) (kept.each s) ∙ code_of (ltb s (states_in b)) (eqb k 0) (kept_row b (row_place b s)))
      (λ s.
      let at = row_place b s in
      ap (λ x. step_list x.steps) (kept.each s)
      ∙ steps_of (ltb s (states_in b)) (kept_row b at)
      ∙ ap (λ xs. cond (ltb s (states_in b)) xs []) (list_of (flag_set (byte_at b at) 1) (flag_set (byte_at b at) 2) (eqb (byte_at b (at + 1)) (byte_at b (at + 2))) (byte_at b (at + 1)) (byte_at b (at + 2))))

  module _ (passes : Passes (table_questions b)) where
    -- a row that is there is proper
    row_proper : (s : ℕ) → s < states_in b → proper_at b (row_place b s) ≡ true
    row_proper s h = not-false (proper_at b (row_place b s)) (passes.rows_pass s h)

    -- the steps of a state, or of none
    guarded : (P : List ℕ → Type 0) (s : ℕ) → (s < states_in b → P (steps_at b (row_place b s))) → P [] → P ((table_plan b).steps s)
    guarded P s there gone =
        ⊎_elim
        (λ (low : ltb s (states_in b) ≡ true). subst P (sym (ap (λ t. cond t (steps_at b (row_place b s)) []) low)) (there (ltb-true s (states_in b) low)))
        (λ (high : ltb s (states_in b) ≡ false). subst P (sym (ap (λ t. cond t (steps_at b (row_place b s)) []) high)) gone)
        (cases_Bool (ltb s (states_in b)))

    -- a file that passes all questions describes a lawful plan
    pub table_lawful : Lawful (table_plan b)
    table_lawful =
        let n = states_in b in
        let counts : (leb 1 n ≡ true) × (leb n 128 ≡ true) = and_parts (leb 1 n) (leb n 128) passes.header.counts_pass in
        record {
          some = leb-true 1 n counts.0;
          few = leb-true n 128 counts.1;
          begins = ltb-true (start_in b) n passes.header.start_passes;
          narrow = omega arith;
          inside = λ s i h.
              All-get_or (λ x. x < n) ((table_plan b).steps s) i 0 h
              (guarded (All (λ x. x < n)) s
              (λ low. let at = row_place b s in all_within (flag_set (byte_at b at) 1) (flag_set (byte_at b at) 2) (eqb (byte_at b (at + 1)) (byte_at b (at + 2))) n (byte_at b (at + 1)) (byte_at b (at + 2)) (passes.steps_pass s low))
              tt);
          no_repeats = λ s.
              guarded Distinct s
              (λ low. let at = row_place b s in distinct_of (flag_set (byte_at b at) 1) (flag_set (byte_at b at) 2) (byte_at b (at + 1)) (byte_at b (at + 2)))
              distinct_none;
          silent = λ s k unmarked.
              let at = row_place b s in
              silent_of (ltb s n) (flag_set (byte_at b at) 0) (eqb k 0) (long_at b (at + 4))
              (λ low. (and_parts _ _ (row_proper s (ltb-true s n low))).1) unmarked;
          unmarked_past = λ s high. ap (λ t. t && flag_set (byte_at b (row_place b s)) 0) (le-ltb s n high);
          no_steps_past = λ s high. ap (λ t. cond t (steps_at b (row_place b s)) []) (le-ltb s n high);
          no_code_past = λ s k high. past_of (ltb s n) (eqb k 0) (long_at b (row_place b s + 4)) (ne_eqb k 0 (omega arith));
        }
