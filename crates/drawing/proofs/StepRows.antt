-- Step rows, one after the other.
use Rattle.std.proofs.Common.{◌≡◌, ℕ, ◌+◌, ◌-◌, ◌<◌, ◌≤◌, Bool, true, false, cond, not, ◌&&◌, eqb, ltb, leb, ◌≢◌, List, [], ◌∷◌, ◌++◌, length, get_or, take, drop, set, replicate, sym, ap, ◌∙◌, subst, ⊎_elim, append-nil, add-one, arith, below_more}
use Rattle.std.proofs.lemmas.List.{length-replicate, length-set, get_or-set_same, get_or-set_other}
use Rattle.std.proofs.lemmas.Bool.{cases_eq, or_parts, or_cases, and_parts, not-false, leb-false, lt-ltb, ltb-true, eqb-true, eq-eqb, ne_eqb}
use Rattle.drawing.specs.declared.steps.Span.{Span}
use Rattle.drawing.specs.declared.steps.StepTable.{StepTable}
use Rattle.drawing.specs.Layout.{states_in, from_in, to_in, before, astray_in, steps_from}
use Rattle.drawing.specs.Stored.{no_span, span_of, steps_of, extended}
use Rattle.drawing.specs.Opening.{StepsRead}
use Rattle.drawing.proofs.Spans.{span_kept, span_more}
use Rattle.drawing.proofs.States.{replicated}

-- what a step row says that does not lead astray
pub record Right (b : List ℕ) (i : ℕ) : Type 0 where
  pub from_exists : from_in b i < states_in b
  pub to_exists : to_in b i < states_in b
  pub after_last : 0 < i → before (from_in b (i - 1)) (to_in b (i - 1)) (from_in b i) (to_in b i) ≡ true

pub right_from : (b : List ℕ) (i : ℕ) → astray_in b i ≡ false → Right b i
right_from b i right =
    let both = or_parts _ _ right in
    let ends = or_parts (leb (states_in b) (from_in b i)) (leb (states_in b) (to_in b i)) both.0 in
    record {
      from_exists = leb-false (states_in b) (from_in b i) ends.0;
      to_exists = leb-false (states_in b) (to_in b i) ends.1;
      after_last = λ later.
          not-false (before (from_in b (i - 1)) (to_in b (i - 1)) (from_in b i) (to_in b i))
          (subst (λ (t : Bool). (t && not (before (from_in b (i - 1)) (to_in b (i - 1)) (from_in b i) (to_in b i))) ≡ false) (lt-ltb 0 i later) both.1);
    }

-- a step that comes before another one leads from no later state
before_from : (f t g u : ℕ) → before f t g u ≡ true → f ≤ g
before_from f t g u first =
    ⊎_elim
    (λ (low : ltb f g ≡ true). omega (arith, ltb-true f g low))
    (λ (same : (eqb f g && ltb t u) ≡ true). omega (arith, eqb-true f g (and_parts (eqb f g) (ltb t u) same).0))
    (or_cases (ltb f g) (eqb f g && ltb t u) first)

-- before the first step row
pub steps_none : (b : List ℕ) → StepsRead b 0 (record { spans = replicate 128 no_span; targets = replicate 1024 0 })
steps_none b =
    let none : (s : ℕ) → get_or (replicate 128 no_span) s no_span ≡ no_span = λ s. replicated 128 s no_span in
    record {
      long_spans = length-replicate 128 no_span;
      long_targets = length-replicate {A = ℕ} 1024 0;
      right_steps = λ row h. absurd (omega (arith, h));
      ends_by = λ s. subst (λ (x : Span). x.first + x.count ≤ 0) (sym (none s)) (omega arith);
      listed = λ s. ap (λ (x : Span). take x.count (drop x.first (replicate 1024 0))) (none s);
      no_later = λ s some. absurd (omega (arith, subst (λ (x : Span). 0 < x.count) (none s) some));
      open_end = λ s some. absurd (omega (arith, subst (λ (x : Span). 0 < x.count) (none s) some));
    }

-- one step row more, which does not lead astray
module _ (b : List ℕ) (i : ℕ) (t : StepTable) (read : StepsRead b i t) (room : i < 1024) (right : astray_in b i ≡ false) (few : states_in b ≤ 128) where
  row_right : Right b i
  row_right = right_from b i right

  grown : StepTable
  grown = record {
    spans = set t.spans (from_in b i) (extended (span_of t (from_in b i)) i);
    targets = set t.targets i (to_in b i);
  }

  at_from : (s : ℕ) → s ≡ from_in b i → span_of grown s ≡ extended (span_of t (from_in b i)) i
  unfolding grown
  at_from s here =
      let within : from_in b i < length t.spans = omega (arith, read.long_spans, row_right.from_exists) in
      ap (λ k. get_or (set t.spans (from_in b i) (extended (span_of t (from_in b i)) i)) k no_span) here
      ∙ get_or-set_same t.spans (from_in b i) (extended (span_of t (from_in b i)) i) no_span within

  at_other : (s : ℕ) → s ≢ from_in b i → span_of grown s ≡ span_of t s
  unfolding grown
  at_other s other = get_or-set_other t.spans (from_in b i) s (extended (span_of t (from_in b i)) i) no_span other

  -- the states that have steps are none later than the new row's
  up_to : (s : ℕ) → 0 < (span_of t s).count → s ≤ from_in b i
  up_to s some =
      let later : 0 < i = omega (arith, read.ends_by s) in
      let order : from_in b (i - 1) ≤ from_in b i = before_from _ _ _ _ (row_right.after_last later) in
      omega (arith, read.no_later s some)

  -- the new target comes right behind the others of its state
  joins : (extended (span_of t (from_in b i)) i).first + (span_of t (from_in b i)).count ≡ i
  joins =
      let span = span_of t (from_in b i) in
      ⊎_elim
      (λ (none : span.count ≡ 0).
      let is : cond (eqb span.count 0) i span.first ≡ i = ap (λ v. cond v i span.first) (eq-eqb span.count 0 none) in
      omega (arith, is))
      (λ (some : span.count ≡ 0 → ⊥).
      let is : cond (eqb span.count 0) i span.first ≡ span.first = ap (λ v. cond v i span.first) (ne_eqb span.count 0 some) in
      let any : 0 < span.count = omega (arith, some) in
      let later : 0 < i = omega (arith, read.ends_by (from_in b i)) in
      let order : from_in b (i - 1) ≤ from_in b i = before_from _ _ _ _ (row_right.after_last later) in
      let same : from_in b i ≡ from_in b (i - 1) = omega (arith, read.no_later (from_in b i) any) in
      omega (arith, is, read.open_end (from_in b i) any same))
      (cases_eq span.count 0)

  -- and these stay as they were
  begins_alike : take (span_of t (from_in b i)).count (drop (extended (span_of t (from_in b i)) i).first t.targets) ≡ steps_of t (from_in b i)
  begins_alike =
      let span = span_of t (from_in b i) in
      ⊎_elim
      (λ (none : span.count ≡ 0). ap (λ n. take n (drop (extended span i).first t.targets)) none ∙ sym (ap (λ n. take n (drop span.first t.targets)) none))
      (λ (some : span.count ≡ 0 → ⊥). ap (λ v. take span.count (drop (cond v i span.first) t.targets)) (ne_eqb span.count 0 some))
      (cases_eq span.count 0)

  one_more : (s : ℕ) → steps_from b s i ++ cond (eqb (from_in b i) s) (to_in b i ∷ []) [] ≡ steps_from b s (i + 1)
  one_more s = ap (steps_from b s) (sym (add-one i))

  listed_more : (s : ℕ) → steps_of grown s ≡ steps_from b s (i + 1)
  unfolding grown
  listed_more s =
      ⊎_elim
      (λ (here : s ≡ from_in b i).
      let span = extended (span_of t (from_in b i)) i in
      let targets = set t.targets i (to_in b i) in
      let within : i < length t.targets = omega (arith, read.long_targets) in
      ap (λ (x : Span). take x.count (drop x.first targets)) (at_from s here)
      ∙ span_more t.targets span.first (span_of t (from_in b i)).count i (to_in b i) joins within
      ∙ ap (λ xs. xs ++ to_in b i ∷ []) (begins_alike ∙ read.listed (from_in b i))
      ∙ ap (λ k. steps_from b k i ++ to_in b i ∷ []) (sym here)
      ∙ ap (λ v. steps_from b s i ++ cond v (to_in b i ∷ []) []) (sym (eq-eqb (from_in b i) s (sym here)))
      ∙ one_more s)
      (λ (other : s ≢ from_in b i).
      ap (λ (x : Span). take x.count (drop x.first (set t.targets i (to_in b i)))) (at_other s other)
      ∙ span_kept t.targets (span_of t s).first (span_of t s).count i (to_in b i) (read.ends_by s)
      ∙ read.listed s
      ∙ sym (append-nil (steps_from b s i))
      ∙ ap (λ v. steps_from b s i ++ cond v (to_in b i ∷ []) []) (sym (ne_eqb (from_in b i) s (λ e. other (sym e))))
      ∙ one_more s)
      (cases_eq s (from_in b i))

  last_row : from_in b (i + 1 - 1) ≡ from_in b i
  last_row = let e : i + 1 - 1 ≡ i = omega arith in ap (from_in b) e

  pub steps_more : StepsRead b (i + 1) (record { spans = set t.spans (from_in b i) (extended (span_of t (from_in b i)) i); targets = set t.targets i (to_in b i) })
  unfolding grown
  steps_more = record {
    long_spans = length-set t.spans _ _ ∙ read.long_spans;
    long_targets = length-set t.targets _ _ ∙ read.long_targets;
    right_steps = below_more _ _ read.right_steps right;
    ends_by = λ s.
        ⊎_elim
        (λ (here : s ≡ from_in b i). subst (λ (x : Span). x.first + x.count ≤ i + 1) (sym (at_from s here)) (omega (arith, joins)))
        (λ (other : s ≢ from_in b i). subst (λ (x : Span). x.first + x.count ≤ i + 1) (sym (at_other s other)) (omega (arith, read.ends_by s)))
        (cases_eq s (from_in b i));
    listed = listed_more;
    no_later = λ s some.
        ⊎_elim
        (λ (here : s ≡ from_in b i). omega (arith, last_row))
        (λ (other : s ≢ from_in b i). omega (arith, last_row, up_to s (subst (λ (x : Span). 0 < x.count) (at_other s other) some)))
        (cases_eq s (from_in b i));
    open_end = λ s some last.
        let here : s ≡ from_in b i = last ∙ last_row in
        subst (λ (x : Span). x.first + x.count ≡ i + 1) (sym (at_from s here)) (omega (arith, joins));
  }
