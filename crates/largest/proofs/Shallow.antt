-- Where no set fits, the starts are not bisimilar to depth 16,384.
use Rattle.std.proofs.Common.{◌≡◌, ℕ, zero, suc, ◌+◌, ◌<◌, ◌≤◌, Bool, true, false, ◌⊎◌, Decides, refl, inl, inr, ⊎_elim, arith}
use Rattle.std.proofs.lemmas.Bool.{cases_Bool, cases_lt, both_ways}
use Rattle.plan.specs.Model.{Model, Lawful}
use Rattle.rules.specs.Rules.{Says}
use Rattle.pairs.specs.Pairs.{Pairs, Has, no_pairs}
use Rattle.pairs.specs.Listing.{pair_count}
use Rattle.pairs.proofs.Listed.{count_length}
use Rattle.closings.proofs.Nexts.{marked_below}
use Rattle.fitting.specs.Bisimilarity.{Bisimilar}
use Rattle.largest.specs.Rounds.{SomeFits, Round, NoneFitsMeans}
use Rattle.largest.proofs.Counts.{fewer_pairs}
use Rattle.largest.proofs.Deciding.{Surely, Settles, surely_settles, surely_then, surely_each}
use Rattle.largest.proofs.Depths.{compatible_at, one_less, less_deep}
use Rattle.largest.proofs.Settling.{Settled, settled_largest}

-- yes or no, with what it says
abbrev Decision : Type 0 → Type 0
Decision Q = (v : Bool) × Decides v Q

decision_no : (Q : Type 0) → (Q → ⊥) → Decision Q
decision_no Q fails = (false, (λ is. absurd (both_ways false refl is), λ holds. absurd (fails holds)))

decision : (Q : Type 0) → Settles Q → Decision Q
decision Q (inl holds) = (true, (λ is. holds, λ holds'. refl))
decision Q (inr fails) = decision_no Q fails

-- a relation between numbers below n surely is a set of pairs
module _ (P : ℕ → ℕ → Type 0) (n : ℕ) (within : (s t : ℕ) → P s t → (s < n) × (t < n)) where
  decided_at : ((s : ℕ) → s < n → (t : ℕ) → t < n → Settles (P s t)) → (s t : ℕ) → Decision (P s t)
  decided_at settled s t =
      ⊎_elim
      (λ (low : s < n).
      ⊎_elim
      (λ (low' : t < n). decision (P s t) (settled s low t low'))
      (λ (high : n ≤ t). decision_no (P s t) (λ holds. omega (arith, (within s t holds).1, high)))
      (cases_lt t n))
      (λ (high : n ≤ s). decision_no (P s t) (λ holds. omega (arith, (within s t holds).0, high)))
      (cases_lt s n)

  surely_set : Surely ((pairs : Pairs) × ((s t : ℕ) → Decides (pairs s t) (P s t)))
  surely_set =
      surely_then
      (surely_each n (λ s. (t : ℕ) → t < n → Settles (P s t)) (λ s low. surely_each n (λ t. Settles (P s t)) (λ t low'. surely_settles (P s t))))
      (λ settled. (λ s t. (decided_at settled s t).0, λ s t. (decided_at settled s t).1))

module _ (a b : Model) (says : Says) (laws : Lawful a) (laws' : Lawful b) where
  bisimilar_below : (k s t : ℕ) → Bisimilar a b says k s t → (s < 128) × (t < 128)
  bisimilar_below k s t deep =
      let compatible = compatible_at a b says k s t deep in (
        omega (arith, marked_below a laws s compatible.first_marked, laws.few),
        omega (arith, marked_below b laws' t compatible.second_marked, laws'.few),
      )

  abbrev RoundAt : ℕ → Type 0
  RoundAt k = (pairs : Pairs) × Round a b says k pairs

  surely_round : (k : ℕ) → Surely (RoundAt k)
  surely_round k = surely_set (Bisimilar a b says k) 128 (bisimilar_below k)

  -- a round that leaves no fewer pairs changes nothing
  settled_same : (k : ℕ) (old new : Pairs) → Round a b says k old → Round a b says (suc k) new → pair_count old ≤ pair_count new → Settled a b says k
  settled_same k old new round round' same s t deep =
      ⊎_elim
      (λ (is : new s t ≡ true). (round' s t).0 is)
      (λ (lacks : new s t ≡ false).
      let low = bisimilar_below k s t deep in
      let fewer : pair_count new < pair_count old =
      fewer_pairs new old (λ x y has. (round x y).1 (one_less a b says k x y ((round' x y).0 has))) s t low.0 low.1 lacks ((round s t).1 deep) in
      absurd (omega (arith, same, fewer)))
      (cases_Bool (new s t))

  -- of n rounds one changes nothing, or each leaves fewer pairs
  falls : (n : ℕ) → ((k : ℕ) → k < suc n → RoundAt k)
      → ((k : ℕ) × (k < n) × Settled a b says k) ⊎ ((pairs : Pairs) × Round a b says n pairs × (pair_count pairs + n ≤ 16384))
  falls zero rounds = let first = rounds 0 (omega arith) in inr (first.0, first.1, omega (arith, count_length first.0))
  falls (suc n) rounds =
      ⊎_elim
      (λ (there : (k : ℕ) × (k < n) × Settled a b says k). inl (there.0, omega (arith, there.1), there.2))
      (λ (last : (pairs : Pairs) × Round a b says n pairs × (pair_count pairs + n ≤ 16384)).
      let next = rounds (suc n) (omega arith) in
      ⊎_elim
      (λ (less : pair_count next.0 < pair_count last.0). inr (next.0, next.1, omega (arith, last.2, less)))
      (λ (same : pair_count last.0 ≤ pair_count next.0). inl (n, omega arith, settled_same n last.0 next.0 last.1 next.1 same))
      (cases_lt (pair_count next.0) (pair_count last.0)))
      (falls n (λ k low. rounds k (omega (arith, low))))

  deep_enough : (n : ℕ) → 16384 ≤ n → (SomeFits a b says → ⊥) → Bisimilar a b says n a.start b.start → ⊥
  deep_enough n enough never deep =
      surely_each (suc n) RoundAt (λ k low. surely_round k)
      (λ rounds.
      ⊎_elim
      (λ (there : (k : ℕ) × (k < n) × Settled a b says k).
      let k = there.0 in
      let at = rounds k (omega (arith, there.1)) in
      let starts : Has at.0 a.start b.start = (at.1 a.start b.start).1 (less_deep a b says k n a.start b.start (omega (arith, there.1)) deep) in
      never (at.0, (settled_largest a b says k at.0 at.1 there.2 starts).fits))
      (λ (last : (pairs : Pairs) × Round a b says n pairs × (pair_count pairs + n ≤ 16384)).
      let low = bisimilar_below n a.start b.start deep in
      let fewer : pair_count no_pairs < pair_count last.0 =
      fewer_pairs no_pairs last.0 (λ s t has. absurd (both_ways false refl has)) a.start b.start low.0 low.1 refl ((last.1 a.start b.start).1 deep) in
      omega (arith, last.2, enough, fewer))
      (falls n rounds))

  pub none_fits_means : NoneFitsMeans a b says
  none_fits_means = deep_enough 16384 (omega arith)
