-- What the tables say of covered closings, pair by pair, side by side.
use Rattle.std.proofs.Common.{◌≡◌, ℕ, zero, suc, ◌+◌, ◌<◌, ◌≤◌, true, false, not, ◌&&◌, ◌≢◌, Decides, subst, ⊎_elim, arith}
use Rattle.std.proofs.lemmas.Bool.{cases_Bool, cases_eq, and_parts, and_from, not-true, not_from_false, both_ways}
use Rattle.plan.specs.declared.answer.Side.{Side}
use Rattle.plan.specs.declared.answer.Side.TheVariants.{First, Second}
use Rattle.plan.specs.Model.{Model, Lawful}
use Rattle.plan.specs.Runs.{Marked, NextClosing}
use Rattle.vet.specs.Findings.{LowestSuch}
use Rattle.pairs.specs.Pairs.{Has, Pairs}
use Rattle.fitting.specs.declared.covering.Covering.{Covering}
use Rattle.fitting.specs.Bisimilarity.{Matched}
use Rattle.fitting.specs.Judging.{IsUncovered, SomeUncovered, FirstAt}
use Rattle.closings.specs.Tables.{Tabulates, Follows, CoveredBy, exchanged}
use Rattle.fitting.specs.Covering.{Covers, uncovered_in, side_at, SidesCovered, ClosingsCovered}
use Rattle.closings.proofs.Nexts.{next_below}

-- One side: m is the plan of its state s, n the other with t. What the tables have of s's next closings, of t's, and of what t covers.
module _ (m n : Model) (pairs mine other covered : Pairs) (follows : Tabulates (Follows m) mine) (follows' : Tabulates (Follows n) other)
    (covers : Tabulates (CoveredBy other pairs) covered) (s t : ℕ) (marked : Marked m s) (marked' : Marked n t) where
  -- what t covers is covered by a next closing of t, and the other way round
  covered_is : (x : ℕ) → Decides (covered t x) ((y : ℕ) × NextClosing n t y × Has pairs x y)
  covered_is x = (
    λ is. let found = (covers t x).0 is in (found.0, ((follows' t found.0).0 found.1).1, found.2),
    λ found. (covers t x).1 (found.0, (follows' t found.0).1 (marked', found.1), found.2),
  )

  pub uncovered_is : (x : ℕ) → Decides (mine s x && not (covered t x)) (NextClosing m s x × (((y : ℕ) × NextClosing n t y × Has pairs x y) → ⊥))
  uncovered_is x = (
    λ both.
        let parts = and_parts (mine s x) (not (covered t x)) both in
        (((follows s x).0 parts.0).1, λ found. both_ways (covered t x) (not-true (covered t x) parts.1) ((covered_is x).1 found)),
    λ uncovered.
        ⊎_elim
        (λ (is : covered t x ≡ true). absurd (uncovered.1 ((covered_is x).0 is)))
        (λ (isnt : covered t x ≡ false). and_from (mine s x) (not (covered t x)) ((follows s x).1 (marked, uncovered.0)) (not_from_false (covered t x) isnt))
        (cases_Bool (covered t x)),
  )

  -- a next closing that is not uncovered is covered
  pub covered_from : (x : ℕ) → NextClosing m s x → ((NextClosing m s x × (((y : ℕ) × NextClosing n t y × Has pairs x y) → ⊥)) → ⊥) → (y : ℕ) × NextClosing n t y × Has pairs x y
  covered_from x next never =
      ⊎_elim
      (λ (is : covered t x ≡ true). (covered_is x).0 is)
      (λ (isnt : covered t x ≡ false). absurd (never (next, λ found. both_ways (covered t x) isnt ((covered_is x).1 found))))
      (cases_Bool (covered t x))

module _ (a b : Model) (pairs : Pairs) (c : Covering) (tables : Covers a b pairs c) where
  module _ (s t : ℕ) (marked : Marked a s) (marked' : Marked b t) where
    pub uncovered_decides : (side : Side) (x : ℕ) → Decides (uncovered_in c side s t x) (IsUncovered a b pairs side s t x)
    uncovered_decides First x =
        uncovered_is a b pairs _ _ _ tables.first_next tables.second_next tables.first_covered s t marked marked' x
    uncovered_decides Second x =
        uncovered_is b a (exchanged pairs) _ _ _ tables.second_next tables.first_next tables.second_covered t s marked' marked x

    -- both sides have no uncovered closing: every next closing is covered
    pub sides_match : SidesCovered a b pairs s t 2 → Matched a b (Has pairs) s t
    sides_match done = record {
      forth = λ x next.
          covered_from a b pairs _ _ _ tables.first_next tables.second_next tables.first_covered s t marked marked' x next (done 0 (omega arith) x);
      back = λ y next.
          covered_from b a (exchanged pairs) _ _ _ tables.second_next tables.first_next tables.second_covered t s marked' marked y next (done 1 (omega arith) y);
    }

module _ (a b : Model) (pairs : Pairs) where
  -- a pair whose next closings are all covered has no uncovered one
  pub matched_covered : (s t : ℕ) → Matched a b (Has pairs) s t → SomeUncovered a b pairs s t → ⊥
  matched_covered s t matched (First, x, uncovered) = uncovered.1 (matched.forth x uncovered.0)
  matched_covered s t matched (Second, x, uncovered) = uncovered.1 (matched.back x uncovered.0)

  pub sides_none : (s t : ℕ) → SidesCovered a b pairs s t 0
  sides_none s t j low x = absurd (omega (arith, low))

  -- an uncovered closing is a state
  uncovered_below : Lawful a → Lawful b → (side : Side) (s t x : ℕ) → IsUncovered a b pairs side s t x → x < 128
  uncovered_below laws laws' First s t x uncovered = omega (arith, next_below a laws s x uncovered.0.0, laws.few)
  uncovered_below laws laws' Second s t x uncovered = omega (arith, next_below b laws' t x uncovered.0.0, laws'.few)

  -- one side more, of which all closings were looked at
  pub sides_more : Lawful a → Lawful b → (s t i k : ℕ) → 128 ≤ k → SidesCovered a b pairs s t i → ClosingsCovered a b pairs (side_at i) s t k → SidesCovered a b pairs s t (i + 1)
  sides_more laws laws' s t i k all sides closings j low x uncovered =
      ⊎_elim
      (λ (last : j ≡ i).
      let here : IsUncovered a b pairs (side_at i) s t x = subst (λ v. IsUncovered a b pairs (side_at v) s t x) last uncovered in
      closings x (omega (arith, uncovered_below laws laws' (side_at i) s t x here)) here)
      (λ (earlier : j ≢ i). sides j (omega (arith, low, earlier)) x uncovered)
      (cases_eq j i)

  -- the first uncovered closing of a pair
  pub first_at : (s t i x : ℕ) → i < 2 → SidesCovered a b pairs s t i → LowestSuch (IsUncovered a b pairs (side_at i) s t) x → FirstAt a b pairs (side_at i) s t x
  first_at s t zero x low sides lowest = lowest
  first_at s t (suc zero) x low sides lowest = (sides 0 (omega arith), lowest)
  first_at s t (suc (suc i)) x low sides lowest = absurd (omega (arith, low))
