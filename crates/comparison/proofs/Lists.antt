-- Lists of calls: one call after the other, and why there is only one history.
use Rattle.std.proofs.Common.{◌≡◌, ℕ, zero, suc, ◌+◌, ◌<◌, ◌≤◌, cond, ltb, ◌≢◌, List, length, get_or, drop, set, sym, refl, ap, ◌∙◌, subst, ⊎_elim, add-one, arith}
use Rattle.std.proofs.lemmas.List.{length-set, get_or-set_same, get_or-set_other, drop-set-lt, drop-drop}
use Rattle.std.proofs.lemmas.Bool.{cases_eq, lt-ltb, le-ltb}
use Rattle.plan.specs.declared.answer.Answer.{Answer}
use Rattle.plan.specs.Model.{Model}
use Rattle.rules.specs.Rules.{Says}
use Rattle.pairs.specs.Pairs.{Pairs}
use Rattle.comparison.specs.declared.Comparison.{Comparison}
use Rattle.comparison.specs.declared.calls.Call.{Call}
use Rattle.comparison.specs.declared.calls.Call.TheVariants.{Add, Strike, Load}
use Rattle.comparison.specs.Settings.{Setting, setting_of, SameSetting}
use Rattle.comparison.specs.Histories.{Does, no_call, no_answer, History, OneHistory, Ran, Running}

-- the setting stays where plans, findings and rule do
pub setting_stays : {A B R : Type 0} (a : A → Model) (b : B → Model) (says : R → Says) (c d : Comparison A B R) → SameSetting c d
    → setting_of a b says d ≡ setting_of a b says c
setting_stays a b says c d same = λ k. record {
  first = a (same.same_first k).plan;
  second = b (same.same_second k).plan;
  first_finding = (same.same_first k).finding;
  second_finding = (same.same_second k).finding;
  says = says (same.same_rule k);
}

pub same_again : {A B R : Type 0} (c d e : Comparison A B R) → SameSetting c d → SameSetting d e → SameSetting c e
same_again c d e p q = record {
  same_first = q.same_first ∙ p.same_first;
  same_second = q.same_second ∙ p.same_second;
  same_rule = q.same_rule ∙ p.same_rule;
}

module _ (setting : Setting) where
  -- a call answers and leaves one thing only
  does_one : (pairs : Pairs) (call : Call) (x y : Answer) (left other : Pairs) → Does setting pairs call x left → Does setting pairs call y other → (x ≡ y) × (left ≡ other)
  does_one pairs (Add s t) x y left other p q = (p.0 ∙ sym q.0, p.1 ∙ sym q.1)
  does_one pairs (Strike s t) x y left other p q = (p.0 ∙ sym q.0, p.1 ∙ sym q.1)
  does_one pairs (Load file) x y left other p q = (p.0 ∙ sym q.0, p.1 ∙ sym q.1)

  module _ (begin : Pairs) (calls : List Call) (answers others : List Answer) (after later : ℕ → Pairs)
      (one : History setting begin calls answers after) (two : History setting begin calls others later) where
    step_alike : (i : ℕ) → i < length calls → after i ≡ later i → (get_or answers i no_answer ≡ get_or others i no_answer) × (after (i + 1) ≡ later (i + 1))
    step_alike i low alike =
        does_one (later i) (get_or calls i no_call) _ _ _ _
        (subst (λ (pairs : Pairs). Does setting pairs (get_or calls i no_call) (get_or answers i no_answer) (after (i + 1))) alike (one.each i low))
        (two.each i low)

    same_pairs : (i : ℕ) → i ≤ length calls → after i ≡ later i
    same_pairs zero low = one.begins ∙ sym two.begins
    same_pairs (suc i) low =
        ap after (sym (add-one i)) ∙ (step_alike i low (same_pairs i (omega (arith, low)))).1 ∙ ap later (add-one i)

    both_do : (i : ℕ) → i < length calls → get_or answers i no_answer ≡ get_or others i no_answer
    both_do i low = (step_alike i low (same_pairs i (omega (arith, low)))).0

  pub one_history : OneHistory setting
  one_history begin calls answers others after later one two = (
    same_pairs begin calls answers others after later one two,
    both_do begin calls answers others after later one two,
  )

  module _ (begin : Pairs) (calls : List Call) (before : List Answer) where
    -- before the first call
    pub running_none : Running setting begin calls before before begin 0
    running_none = record {
      long = refl;
      so_far = (λ _. begin, refl, refl, λ j low. absurd (omega (arith, low)));
      not_yet = refl;
    }

    -- one call more
    pub running_more : (written : List Answer) (end next : Pairs) (i : ℕ) (answer : Answer) → i < length before
        → Running setting begin calls before written end i
        → Does setting end (get_or calls i no_call) answer next
        → Running setting begin calls before (set written i answer) next (i + 1)
    running_more written end next i answer low running does =
        let after : ℕ → Pairs = running.so_far.0 in
        let then : ℕ → Pairs = λ j. cond (ltb i j) next (after j) in
        let up_to : (j : ℕ) → j ≤ i → then j ≡ after j = λ j h. ap (λ v. cond v next (after j)) (le-ltb i j h) in
        let last : then (i + 1) ≡ next = ap (λ v. cond v next (after (i + 1))) (lt-ltb i (i + 1) (omega arith)) in
        let within : i < length written = omega (arith, running.long) in
        record {
          long = length-set written i answer ∙ running.long;
          so_far = (
            then,
            up_to 0 (omega arith) ∙ running.so_far.1,
            last,
            λ j h.
                ⊎_elim
                (λ (here : j ≡ i).
                let at_i : Does setting (then i) (get_or calls i no_call) (get_or (set written i answer) i no_answer) (then (i + 1)) =
                subst (λ (q : Pairs). Does setting (then i) (get_or calls i no_call) (get_or (set written i answer) i no_answer) q) (sym last)
                (subst (λ (x : Answer). Does setting (then i) (get_or calls i no_call) x next) (sym (get_or-set_same written i answer no_answer within))
                (subst (λ (p : Pairs). Does setting p (get_or calls i no_call) answer next) (sym (up_to i (omega arith) ∙ running.so_far.2)) does)) in
                subst (λ (k : ℕ). Does setting (then k) (get_or calls k no_call) (get_or (set written i answer) k no_answer) (then (k + 1))) (sym here) at_i)
                (λ (earlier : j ≢ i).
                let below : j < i = omega (arith, earlier) in
                subst (λ (q : Pairs). Does setting (then j) (get_or calls j no_call) (get_or (set written i answer) j no_answer) q) (sym (up_to (j + 1) (omega arith)))
                (subst (λ (x : Answer). Does setting (then j) (get_or calls j no_call) x (after (j + 1))) (sym (get_or-set_other written i j answer no_answer earlier))
                (subst (λ (p : Pairs). Does setting p (get_or calls j no_call) (get_or written j no_answer) (after (j + 1))) (sym (up_to j (omega arith))) (running.so_far.3 j below))))
                (cases_eq j i),
          );
          not_yet =
              drop-set-lt (i + 1) written i answer (omega arith)
              ∙ sym (drop-drop 1 i written)
              ∙ ap (drop 1) running.not_yet
              ∙ drop-drop 1 i before;
        }

    -- all calls are made
    pub ran_all : (written : List Answer) (end : Pairs) (i : ℕ) → i ≡ length calls → length calls ≤ length before → Running setting begin calls before written end i → Ran setting begin calls before written end
    ran_all written end i all places running =
        let after : ℕ → Pairs = running.so_far.0 in
        record {
          places = places;
          history = (
            after,
            record { begins = running.so_far.1; each = λ j low. running.so_far.3 j (omega (arith, low)) },
            ap after (sym all) ∙ running.so_far.2,
          );
          behind = subst (λ k. drop k written ≡ drop k before) all running.not_yet;
        }
