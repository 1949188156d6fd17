-- Two plans side by side: what the joined plan says of its states, and that it is lawful.
use Rattle.std.specs.Prelude.{◌≡◌, ℕ, ◌+◌, ◌-◌, ◌*◌, ◌/◌, ◌%◌, ◌<◌, ◌≤◌, Bool, true, false, cond, ltb, List, [], length, nat_lt, slice_index, refl}
use Rattle.std.proofs.Common.{sym, ap, subst, ◌∙◌, arith}
use Rattle.std.proofs.Math.Arith.{digits_lt}
use Rattle.std.proofs.lemmas.Nat.{div-add-mod', div-mul-add, mod-mul-add, div_below, mod_below}
use Rattle.std.proofs.lemmas.Bool.{and_parts, and_from, and_left, le-leb, or_parts, leb-true, ltb-true, lt-ltb, le-ltb, cond-true, cond-false, cond_both}
use Rattle.plan.specs.Answers.{success}
use Rattle.plan.specs.Model.{Model, Lawful, Distinct}
use Rattle.plan.proofs.Lists.{distinct_none}
use Rattle.join.specs.Answers.{join_answer}
use Rattle.join.specs.Joining.{joined, side_by_side, lone_state, fits_join, states_fit, channels_fit, step_pairs, StandsFor, SideBySide}
use Rattle.join.specs.StepPairs.{pairs_inside, pairs_distinct}

-- the plan of all pairs: the state that stands for x and y
pair_stands : (a b : Model) (x y : ℕ) → x < a.states → y < b.states → StandsFor a b (side_by_side a b) x y
pair_stands a b x y hx hy =
    let n = b.states in
    let s = x * n + y in
    let low : s < a.states * n = digits_lt hx hy in
    let exists : ltb s (a.states * n) ≡ true = lt-ltb s (a.states * n) low in
    let first : s / n ≡ x = div-mul-add x n y hy in
    let second : s % n ≡ y = mod-mul-add x n y hy in
    record {
      exists = low;
      marked_by_either = simp (exists, first, second);
      first_codes = λ k h. let there : ltb k a.channels ≡ true = lt-ltb k a.channels h in simp (exists, first, second, there);
      second_codes = λ k.
          let past : ltb (a.channels + k) a.channels ≡ false = le-ltb (a.channels + k) a.channels (omega arith) in
          let moved : (a.channels + k) - a.channels ≡ k = omega arith in
          simp (exists, first, second, past, moved);
      steps_of_both = simp (exists, first, second);
    }

-- the plan of all pairs is the two plans side by side
pub pairs_side_by_side : (a b : Model) → 0 < b.states → SideBySide a b (side_by_side a b)
pairs_side_by_side a b some = record {
  states_multiply = refl;
  channels_add = refl;
  starts_together = refl;
  stands_for = pair_stands a b;
  each_stands = λ s low.
      (s / b.states, s % b.states, div_below s b.states a.states some low, mod_below s b.states some, sym (div-add-mod' s b.states));
}

-- a plan that has one state, without steps or channels, is lawful
lone_lawful : Lawful lone_state
lone_lawful = record {
  some = omega arith;
  few = omega arith;
  begins = omega arith;
  narrow = omega arith;
  inside = λ s i h. absurd (omega (arith, h));
  no_repeats = λ s. distinct_none;
  silent = λ s k _. refl;
  unmarked_past = λ s high. le-ltb s 1 high;
  no_steps_past = λ s high. refl;
  no_code_past = λ s k high. refl;
}

-- the code of a pair, where the part that it comes from has code 0
code_zero : (there first : Bool) (c d : ℕ) → (there ≡ true → first ≡ true → c ≡ 0) → (there ≡ true → first ≡ false → d ≡ 0)
    → cond there (cond first c d) 0 ≡ 0
code_zero false first c d h k = refl
code_zero true true c d h k = h refl refl
code_zero true false c d h k = k refl refl

module _ (a b : Model) (la : Lawful a) (lb : Lawful b) where
  -- a property of the steps of a state, or of none
  steps_keep : (P : List ℕ → Type 0) (s : ℕ) → P (step_pairs b.states (a.steps (s / b.states)) (b.steps (s % b.states))) → P [] → P ((side_by_side a b).steps s)
  steps_keep P s there gone =
      cond_both (nat_lt s (a.states * b.states)) (step_pairs b.states (a.steps (s / b.states)) (b.steps (s % b.states))) [] P
      (λ _. there) (λ _. gone)

  -- where neither part is marked, each code is 0
  pairs_silent : (s k : ℕ) → (side_by_side a b).mark s ≡ false → (side_by_side a b).code s k ≡ 0
  pairs_silent s k unmarked =
      let x = s / b.states in
      let y = s % b.states in
      let neither : ltb s (a.states * b.states) ≡ true → (a.mark x ≡ false) × (b.mark y ≡ false) =
      λ there. or_parts (a.mark x) (b.mark y) (rw there at unmarked) in
      code_zero (nat_lt s (a.states * b.states)) (nat_lt k a.channels) (a.code x k) (b.code y (k - a.channels))
      (λ there _. la.silent x k (neither there).0)
      (λ there _. lb.silent y (k - a.channels) (neither there).1)

  -- no code on a channel past those of both
  pairs_no_code : (s k : ℕ) → a.channels + b.channels ≤ k → (side_by_side a b).code s k ≡ 0
  pairs_no_code s k high =
      code_zero (nat_lt s (a.states * b.states)) (nat_lt k a.channels) (a.code (s / b.states) k) (b.code (s % b.states) (k - a.channels))
      (λ _ first. absurd (omega (arith, ltb-true k a.channels first)))
      (λ _ _. lb.no_code_past (s % b.states) (k - a.channels) (omega arith))

  -- within the limits, all pairs of two lawful plans are a lawful plan
  pairs_lawful : fits_join a b ≡ true → Lawful (side_by_side a b)
  pairs_lawful fits =
      let n = b.states in
      let parts = and_parts (states_fit a b) (channels_fit a b) fits in
      let begins_within : a.start * n + b.start < a.states * n = digits_lt la.begins lb.begins in
      record {
        some = omega arith;
        few = leb-true (a.states * n) 128 parts.0;
        begins = begins_within;
        narrow = leb-true (a.channels + b.channels) 4 parts.1;
        inside = λ s.
            steps_keep (λ xs. (i : ℕ) → i < length xs → slice_index xs i < a.states * n) s
            (pairs_inside n a.states (a.steps (s / n)) (b.steps (s % n)) (la.inside (s / n)) (lb.inside (s % n)))
            (λ i h. absurd (omega (arith, h)));
        no_repeats = λ s.
            steps_keep Distinct s
            (pairs_distinct n (a.steps (s / n)) (b.steps (s % n)) (la.no_repeats (s / n)) (lb.no_repeats (s % n)) (lb.inside (s % n)))
            distinct_none;
        silent = pairs_silent;
        unmarked_past = λ s high. and_left (nat_lt s (a.states * n)) _ (le-ltb s (a.states * n) high);
        no_steps_past = λ s high. cond-false (nat_lt s (a.states * n)) _ [] (le-ltb s (a.states * n) high);
        no_code_past = pairs_no_code;
      }

  -- any two lawful plans are joined to a lawful plan
  pub joined_lawful : Lawful (joined a b)
  joined_lawful = cond_both (fits_join a b) (side_by_side a b) lone_state Lawful pairs_lawful (λ _. lone_lawful)

-- what joining answers and gives, where it gives a plan
pub record JoinedRight (a b : Model) : Type 0 where
  pub numbers_right : success (joined a b).states (joined a b).channels ≡ join_answer a b
  pub stands : SideBySide a b (joined a b)

-- two plans within the limits are joined to both side by side, and the numbers are those of success
pub joined_right : (a b : Model) → Lawful b → a.states * b.states ≤ 128 → a.channels + b.channels ≤ 4 → JoinedRight a b
joined_right a b lb few narrow =
    let s : states_fit a b ≡ true = le-leb (a.states * b.states) 128 few in
    let t : channels_fit a b ≡ true = le-leb (a.channels + b.channels) 4 narrow in
    let is : joined a b ≡ side_by_side a b = cond-true (fits_join a b) (side_by_side a b) lone_state (and_from (states_fit a b) (channels_fit a b) s t) in
    record {
      numbers_right = ap (λ m. success m.states m.channels) is ∙ sym (cond-true (states_fit a b) _ _ s ∙ cond-true (channels_fit a b) _ _ t);
      stands = subst (SideBySide a b) (sym is) (pairs_side_by_side a b lb.some);
    }
