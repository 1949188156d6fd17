-- What a change of one pair keeps true.
use Rattle.std.proofs.Common.{rules, tests, ◌≡◌, ℕ, ◌<◌, ◌≤◌, Bool, true, false, cond, not, eqb, ltb, Some, None, Option, Ok, sym, refl, subst, ⊎_elim, arith}
use Rattle.std.proofs.lemmas.Bool.{and_parts, or_cases, ltb-true, lt-ltb, eqb-true, both_ways, and_from}
use Rattle.plan.specs.Runs.{Marked}
use Rattle.pairs.specs.Pairs.{Pairs, no_pairs, is_pair, with_pair, without_pair, fits_table}
use Rattle.comparison.specs.declared.refusal.PairRefusal.{PairRefusal}
use Rattle.comparison.specs.declared.refusal.PairRefusal.TheVariants.{NoState, Unmarked}
use Rattle.plan.specs.declared.answer.Side.TheVariants.{First, Second}
use Rattle.comparison.specs.Settings.{Setting, OnlyMarked}
use Rattle.comparison.specs.Calls.{pair_refused, or_refused}

-- a pair that is not refused: both states exist and are marked
pub record Allowed (setting : Setting) (s t : ℕ) : Type 0 where
  pub first_exists : s < setting.first.states
  pub second_exists : t < setting.second.states
  pub first_marked : Marked setting.first s
  pub second_marked : Marked setting.second t

by_tests : (a b c d : Bool) (w x y z : PairRefusal)
    → cond a (cond b (cond c (cond d None (Some z)) (Some y)) (Some x)) (Some w) ≡ None
    → (a ≡ true) × (b ≡ true) × (c ≡ true) × (d ≡ true)
by_tests a b c d w x y z e = search (rules, tests)

-- what is not refused
pub not_refused : (refusal : Option PairRefusal) (u : Unit {0}) → Ok u ≡ or_refused refusal tt → refusal ≡ None
not_refused None u e = refl
not_refused (Some refusal) u e = search (rules, tests)

pub allowed : (setting : Setting) (s t : ℕ) → pair_refused setting s t ≡ None → Allowed setting s t
allowed setting s t e =
    let tests = by_tests (ltb s setting.first.states) (ltb t setting.second.states) (setting.first.mark s) (setting.second.mark t)
    (NoState First) (NoState Second) (Unmarked First) (Unmarked Second) e in
    record {
      first_exists = ltb-true s setting.first.states tests.0;
      second_exists = ltb-true t setting.second.states tests.1;
      first_marked = tests.2;
      second_marked = tests.3;
    }

-- an allowed pair has its place in the table
pub allowed_fits : (setting : Setting) (s t : ℕ) → setting.first.states ≤ 128 → setting.second.states ≤ 128 → Allowed setting s t → fits_table s t ≡ true
allowed_fits setting s t few few' a =
    and_from (ltb s 128) (ltb t 128) (lt-ltb s 128 (omega (arith, a.first_exists))) (lt-ltb t 128 (omega (arith, a.second_exists)))

module _ (setting : Setting) (pairs : Pairs) where
  pub marked_with : (s t : ℕ) → Allowed setting s t → OnlyMarked setting pairs → OnlyMarked setting (with_pair pairs s t)
  marked_with s t a old x y e =
      ⊎_elim
      (λ (here : is_pair s t x y ≡ true).
      let both = and_parts (eqb x s) (eqb y t) here in (
        subst (Marked setting.first) (sym (eqb-true x s both.0)) a.first_marked,
        subst (Marked setting.second) (sym (eqb-true y t both.1)) a.second_marked,
      ))
      (λ (there : pairs x y ≡ true). old x y there)
      (or_cases (is_pair s t x y) (pairs x y) e)

  marked_put : (fits : Bool) (s t : ℕ) → Allowed setting s t → OnlyMarked setting pairs → OnlyMarked setting (cond fits (with_pair pairs s t) pairs)
  marked_put true s t a old = marked_with s t a old
  marked_put false s t a old = old

  -- only marked pairs stand where none does, where an allowed pair was put in, and where one was taken out
  pub marked_none : pairs ≡ no_pairs → OnlyMarked setting pairs
  marked_none is = rw is (λ s t e. absurd (both_ways false refl e))

  pub marked_added : (new : Pairs) (s t : ℕ) → pair_refused setting s t ≡ None → new ≡ cond (fits_table s t) (with_pair pairs s t) pairs
      → OnlyMarked setting pairs → OnlyMarked setting new
  marked_added new s t may is old = subst (OnlyMarked setting) (sym is) (marked_put (fits_table s t) s t (allowed setting s t may) old)

  pub marked_struck : (new : Pairs) (s t : ℕ) → new ≡ without_pair pairs s t → OnlyMarked setting pairs → OnlyMarked setting new
  marked_struck new s t is old = subst (OnlyMarked setting) (sym is) (λ x y e. old x y (and_parts (not (is_pair s t x y)) (pairs x y) e).1)
