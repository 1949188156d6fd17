-- What the tables of a round say: next closings are covered just where the set matches them.
use Rattle.std.proofs.Common.{ℕ}
use Rattle.plan.specs.Model.{Model}
use Rattle.plan.specs.Runs.{Marked}
use Rattle.pairs.specs.Pairs.{Pairs, Has, kept_pairs}
use Rattle.closings.specs.Tables.{Tabulates, Follows, CoveredBy, exchanged}
use Rattle.fitting.specs.Bisimilarity.{Matched, OnlyMarked}
use Rattle.closings.specs.declared.sides.Closings.{Closings}
use Rattle.largest.specs.Rounds.{NextRound}
use Rattle.largest.specs.Sweeping.{CoveredIn, MatchedBy, Swept}
use Rattle.largest.proofs.Sweeping.{swept_like}

module _ (next covered : Closings) (pairs : Pairs)
    (first_covered : Tabulates (CoveredBy (kept_pairs next.second) pairs) (kept_pairs covered.first))
    (second_covered : Tabulates (CoveredBy (kept_pairs next.first) (exchanged pairs)) (kept_pairs covered.second)) where
  covered_matched : (s t : ℕ) → CoveredIn next covered s t → MatchedBy next pairs s t
  covered_matched s t both = (λ x has. (first_covered t x).0 (both.0 x has), λ y has. (second_covered s y).0 (both.1 y has))

  matched_covered : (s t : ℕ) → MatchedBy next pairs s t → CoveredIn next covered s t
  matched_covered s t both = (λ x has. (first_covered t x).1 (both.0 x has), λ y has. (second_covered s y).1 (both.1 y has))

  pub swept_covered : (new : Pairs) → Swept (CoveredIn next covered) pairs new → Swept (MatchedBy next pairs) pairs new
  swept_covered new = swept_like (CoveredIn next covered) (MatchedBy next pairs) pairs new covered_matched matched_covered

-- the tables are of two plans, and the set joins closings
module _ (a b : Model) (next : Closings) (first_next : Tabulates (Follows a) (kept_pairs next.first)) (second_next : Tabulates (Follows b) (kept_pairs next.second))
    (pairs : Pairs) (only_marked : OnlyMarked a b pairs) where
  matched_plans : (s t : ℕ) → Marked a s → Marked b t → MatchedBy next pairs s t → Matched a b (Has pairs) s t
  matched_plans s t marked marked' both = record {
    forth = λ x closing.
        let found = both.0 x ((first_next s x).1 (marked, closing)) in (found.0, ((second_next t found.0).0 found.1).1, found.2);
    back = λ y closing.
        let found = both.1 y ((second_next t y).1 (marked', closing)) in (found.0, ((first_next s found.0).0 found.1).1, found.2);
  }

  plans_matched : (s t : ℕ) → Marked a s → Marked b t → Matched a b (Has pairs) s t → MatchedBy next pairs s t
  plans_matched s t marked marked' matched = (
    λ x has.
        let found = matched.forth x ((first_next s x).0 has).1 in (found.0, (second_next t found.0).1 (marked', found.1), found.2),
    λ y has.
        let found = matched.back y ((second_next t y).0 has).1 in (found.0, (first_next s found.0).1 (marked, found.1), found.2),
  )

  pub swept_next : (new : Pairs) → Swept (MatchedBy next pairs) pairs new → NextRound a b pairs new
  swept_next new swept s t = (
    λ has.
        let both = (swept s t).0 has in
        let marked = only_marked s t both.0 in
        (both.0, matched_plans s t marked.0 marked.1 both.1),
    λ both.
        let marked = only_marked s t both.0 in
        (swept s t).1 (both.0, plans_matched s t marked.0 marked.1 both.1),
  )
