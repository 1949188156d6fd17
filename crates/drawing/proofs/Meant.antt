-- The plan that is kept is the one that the file's layout describes, and it is lawful.
use Rattle.std.proofs.Common.{◌≡◌, ℕ, zero, suc, ◌-◌, ◌<◌, ◌≤◌, Bool, true, false, cond, ◌&&◌, eqb, ltb, leb, List, [], ◌∷◌, ◌++◌, sym, refl, ap, ◌∙◌, subst, ⊎_elim, append-nil, arith}
use Rattle.std.specs.List.{AllByRecursion as All}
use Rattle.std.proofs.ByRecursion.{All-get_or, All-push, All-weaker}
use Rattle.std.proofs.lemmas.Bool.{and_parts, or_cases, cases_Bool, both_ways, not-false, leb-true, ltb-true, le-ltb, eqb-true}
use Rattle.std.proofs.lemmas.Bool.Decides.{nat_tests, Decides-below_and, Decides-eqb}
use Rattle.plan.specs.Model.{Lawful, Distinct}
use Rattle.plan.proofs.Laws.{same_model}
use Rattle.plan.proofs.Lists.{distinct_none, distinct_push}
use Rattle.layout.specs.Questions.{Passes, StepsPass}
use Rattle.drawing.specs.declared.state.State.{State}
use Rattle.drawing.specs.declared.steps.StepTable.{StepTable}
use Rattle.drawing.specs.Layout.{states_in, steps_in, channels_in, start_in, state_place, mark_at, code_at, silent_at, proper_at, from_in, to_in, before, steps_from, drawing_plan, drawing_questions}
use Rattle.drawing.specs.Stored.{stored_plan}
use Rattle.drawing.specs.Opening.{StatesRead, StepsRead}
use Rattle.drawing.proofs.StepRows.{Right, right_from}

-- t: the state is there, m: it is marked, z: the channel is there
silent_of : (t m z : Bool) (code : ℕ) → (t ≡ true → m ≡ false → z ≡ true → code ≡ 0) → (t && m) ≡ false → cond (t && z) code 0 ≡ 0
silent_of false m z code proper unmarked = refl
silent_of true true z code proper unmarked = absurd (both_ways true unmarked refl)
silent_of true false true code proper unmarked = proper refl refl refl
silent_of true false false code proper unmarked = refl

past_of : (t z : Bool) (code : ℕ) → z ≡ false → cond (t && z) code 0 ≡ 0
past_of false z code past = refl
past_of true z code past = rw past refl

-- a step that comes before a second one, which comes before a third
before_trans : (f t g u h v : ℕ) → before f t g u ≡ true → before g u h v ≡ true → before f t h v ≡ true
before_trans f t g u h v first second = grind (arith, nat_tests)

module _ (b : List ℕ) where
  pub stored_is : (n start c : ℕ) (rows : List State) (steps : StepTable) → n ≡ states_in b → start ≡ start_in b → c ≡ channels_in b
      → StatesRead b (states_in b) rows → StepsRead b (steps_in b) steps
      → stored_plan n start c rows steps ≡ drawing_plan b
  stored_is n start c rows steps states_read start_read channels_read states steps_read =
      same_model (stored_plan n start c rows steps) (drawing_plan b) states_read start_read channels_read
      states.each_mark states.each_code steps_read.listed

  -- a property of the steps that row i adds to a state
  added : (P : List ℕ → Type 0) (s i : ℕ) → (from_in b i ≡ s → P (steps_from b s i ++ to_in b i ∷ [])) → P (steps_from b s i) → P (steps_from b s (suc i))
  added P s i here other =
      ⊎_elim
      (λ (same : eqb (from_in b i) s ≡ true).
      subst P (ap (λ v. steps_from b s i ++ cond v (to_in b i ∷ []) []) (sym same)) (here (eqb-true (from_in b i) s same)))
      (λ (apart : eqb (from_in b i) s ≡ false).
      subst P (sym (append-nil (steps_from b s i)) ∙ ap (λ v. steps_from b s i ++ cond v (to_in b i ∷ []) []) (sym apart)) other)
      (cases_Bool (eqb (from_in b i) s))

  right_row : (i n : ℕ) → StepsPass (drawing_questions b) n → i < n → Right b i
  right_row i n pass low = right_from b i (pass i low)

  -- each step leads to a state
  steps_inside : (s i : ℕ) → StepsPass (drawing_questions b) i → All (λ t. t < states_in b) (steps_from b s i)
  steps_inside s zero pass = tt
  steps_inside s (suc i) pass =
      let before-i = steps_inside s i (λ k h. pass k (omega arith)) in
      added (All (λ t. t < states_in b)) s i
      (λ _. All-push (λ t. t < states_in b) (steps_from b s i) (to_in b i) before-i (right_row i (suc i) pass (omega arith)).to_exists)
      before-i

  -- each step that was listed comes before the next row
  steps_before : (s i : ℕ) → StepsPass (drawing_questions b) (suc i) → All (λ t. before s t (from_in b i) (to_in b i) ≡ true) (steps_from b s i)
  steps_before s zero pass = tt
  steps_before s (suc i) pass =
      let back : suc i - 1 ≡ i = omega arith in
      let order : before (from_in b i) (to_in b i) (from_in b (suc i)) (to_in b (suc i)) ≡ true =
      subst (λ k. before (from_in b k) (to_in b k) (from_in b (suc i)) (to_in b (suc i)) ≡ true) back
      ((right_row (suc i) (suc (suc i)) pass (omega arith)).after_last (omega arith)) in
      let P : ℕ → Type 0 = λ t. before s t (from_in b (suc i)) (to_in b (suc i)) ≡ true in
      let earlier : All P (steps_from b s i) =
      All-weaker (λ t. before s t (from_in b i) (to_in b i) ≡ true) P
      (λ t h. before_trans s t (from_in b i) (to_in b i) (from_in b (suc i)) (to_in b (suc i)) h order)
      (steps_from b s i) (steps_before s i (λ k h. pass k (omega arith))) in
      added (All P) s i
      (λ here. All-push P (steps_from b s i) (to_in b i) earlier (subst (λ f. before f (to_in b i) (from_in b (suc i)) (to_in b (suc i)) ≡ true) here order))
      earlier

  steps_distinct : (s i : ℕ) → StepsPass (drawing_questions b) i → Distinct (steps_from b s i)
  steps_distinct s zero pass = distinct_none
  steps_distinct s (suc i) pass =
      let before-i = steps_distinct s i (λ k h. pass k (omega arith)) in
      added Distinct s i
      (λ here.
      distinct_push (steps_from b s i) (to_in b i) before-i
      (All-weaker (λ t. before s t (from_in b i) (to_in b i) ≡ true) (λ t. t ≡ to_in b i → ⊥)
      (λ t first same. grind (arith, nat_tests)) (steps_from b s i) (steps_before s i pass)))
      before-i

  -- no step leads from what is no state
  steps_past : (s i : ℕ) → states_in b ≤ s → StepsPass (drawing_questions b) i → steps_from b s i ≡ []
  steps_past s zero high pass = refl
  steps_past s (suc i) high pass =
      added (λ xs. xs ≡ []) s i
      (λ here. absurd (omega (arith, (right_row i (suc i) pass (omega arith)).from_exists)))
      (steps_past s i high (λ k h. pass k (omega arith)))

  module _ (passes : Passes (drawing_questions b)) where
    -- an unmarked state row has only code 0
    row_silent : (s k : ℕ) → s < states_in b → k < channels_in b → eqb (mark_at b (state_place b s)) 1 ≡ false → code_at b (state_place b s) k ≡ 0
    row_silent s k low exists unmarked =
        let at = state_place b s in
        let proper = not-false (proper_at b at (channels_in b)) (passes.rows_pass s low) in
        let silent : silent_at b at (channels_in b) ≡ true =
        ⊎_elim
        (λ (marked : eqb (mark_at b at) 1 ≡ true). absurd (both_ways (eqb (mark_at b at) 1) unmarked marked))
        (λ h. h)
        (or_cases (eqb (mark_at b at) 1) (silent_at b at (channels_in b)) (and_parts (leb (mark_at b at) 1) _ proper).1) in
        (Decides-below_and (λ j. eqb (code_at b at j) 0) (λ j. code_at b at j ≡ 0) (silent_at b at) (λ j. Decides-eqb (code_at b at j) 0) refl (λ _. refl) (channels_in b)).0 silent k exists

    -- a file that passes all questions describes a lawful plan
    pub drawing_lawful : Lawful (drawing_plan b)
    drawing_lawful =
        let n = states_in b in
        let c = channels_in b in
        let all = and_parts _ (leb c 4) passes.header.counts_pass in
        let states_fit = and_parts (leb 1 n) (leb n 128) (and_parts (leb 1 n && leb n 128) (leb (steps_in b) 1024) all.0).0 in
        record {
          some = leb-true 1 n states_fit.0;
          few = leb-true n 128 states_fit.1;
          begins = ltb-true (start_in b) n passes.header.start_passes;
          narrow = leb-true c 4 all.1;
          inside = λ s i h. All-get_or (λ t. t < n) (steps_from b s (steps_in b)) i 0 h (steps_inside s (steps_in b) passes.steps_pass);
          no_repeats = λ s. steps_distinct s (steps_in b) passes.steps_pass;
          silent = λ s k unmarked.
              silent_of (ltb s n) (eqb (mark_at b (state_place b s)) 1) (ltb k c) (code_at b (state_place b s) k)
              (λ low m exists. row_silent s k (ltb-true s n low) (ltb-true k c exists) m) unmarked;
          unmarked_past = λ s high. ap (λ t. t && eqb (mark_at b (state_place b s)) 1) (le-ltb s n high);
          no_steps_past = λ s high. steps_past s (steps_in b) high passes.steps_pass;
          no_code_past = λ s k high. past_of (ltb s n) (ltb k c) (code_at b (state_place b s) k) (le-ltb k c high);
        }
