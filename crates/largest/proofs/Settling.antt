-- The rounds: each gives the next depth, and a round that changes nothing leaves the largest fitting set, or shows that none fits.
use Rattle.std.proofs.Common.{ℕ, suc, Decides}
use Rattle.plan.specs.Model.{Model}
use Rattle.rules.specs.Rules.{Says}
use Rattle.pairs.specs.Pairs.{Pairs, Has}
use Rattle.fitting.specs.Bisimilarity.{Compatible, Bisimilar}
use Rattle.fitting.proofs.Depths.{matched_more, fits_bisimilar}
use Rattle.largest.specs.Rounds.{SomeFits, Largest, Round, NextRound}
use Rattle.largest.proofs.Depths.{depth_none, depth_more, compatible_at, matched_at, one_less}

module _ (a b : Model) (says : Says) where
  -- the first round: the compatible pairs
  pub round_first : (pairs : Pairs) → ((s t : ℕ) → Decides (pairs s t) (Compatible a b says s t)) → Round a b says 0 pairs
  round_first pairs decides s t = (
    λ has. depth_none a b says s t ((decides s t).0 has),
    λ deep. (decides s t).1 (compatible_at a b says 0 s t deep),
  )

  pub round_next : (k : ℕ) (old new : Pairs) → Round a b says k old → NextRound a b old new → Round a b says (suc k) new
  round_next k old new round next s t = (
    λ has.
        let both = (next s t).0 has in
        depth_more a b says k s t (compatible_at a b says k s t ((round s t).0 both.0))
        (matched_more a b (Has old) (Bisimilar a b says k) s t (λ x y. (round x y).0) both.1),
    λ deep.
        (next s t).1 (
          (round s t).1 (one_less a b says k s t deep),
          matched_more a b (Bisimilar a b says k) (Has old) s t (λ x y. (round x y).1) (matched_at a b says k s t deep),
        ),
  )

  -- whatever is bisimilar to depth k is so to depth k + 1
  abbrev pub Settled : ℕ → Type 0
  Settled k = (s t : ℕ) → Bisimilar a b says k s t → Bisimilar a b says (suc k) s t

  module _ (k : ℕ) (pairs : Pairs) (round : Round a b says k pairs) where
    -- a round that changes nothing
    pub settled_by : NextRound a b pairs pairs → Settled k
    settled_by same s t deep =
        depth_more a b says k s t (compatible_at a b says k s t deep)
        (matched_more a b (Has pairs) (Bisimilar a b says k) s t (λ x y. (round x y).0) ((same s t).0 ((round s t).1 deep)).1)

    pub settled_largest : Settled k → Has pairs a.start b.start → Largest a b says pairs
    settled_largest settled starts =
        let compatible : (s t : ℕ) → Has pairs s t → Compatible a b says s t = λ s t has. compatible_at a b says k s t ((round s t).0 has) in
        record {
          fits = record {
            joins_starts = starts;
            only_marked = λ s t has. ((compatible s t has).first_marked, (compatible s t has).second_marked);
            all_acceptable = λ s t has. (compatible s t has).acceptable;
            all_covered = λ s t has.
                matched_more a b (Bisimilar a b says k) (Has pairs) s t (λ x y. (round x y).1) (matched_at a b says k s t (settled s t ((round s t).0 has)));
          };
          has_every = λ other fits s t has. (round s t).1 (fits_bisimilar a b says other fits k s t has);
        }

    -- the pairs of a fitting set stand in every round, the pair of starts among them
    pub none_fits : (Has pairs a.start b.start → ⊥) → SomeFits a b says → ⊥
    none_fits apart some =
        apart ((round a.start b.start).1 (fits_bisimilar a b says some.0 some.1 k a.start b.start some.1.joins_starts))
