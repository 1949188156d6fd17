-- Bisimilarity to a depth, one step at a time: what it is made of, and that it implies every lesser depth.
use Rattle.std.proofs.Common.{◌≡◌, ℕ, zero, suc, ◌<◌, ◌≤◌, sym, subst, ⊎_elim, arith}
use Rattle.plan.specs.Model.{Model}
use Rattle.rules.specs.Rules.{Says}
use Rattle.pairs.proofs.Listed.{cases_le}
use Rattle.fitting.specs.Bisimilarity.{Matched, Compatible, Bisimilar}
use Rattle.fitting.proofs.Depths.{matched_more}

module _ (a b : Model) (says : Says) where
  pub depth_none : (s t : ℕ) → Compatible a b says s t → Bisimilar a b says 0 s t
  unfolding Bisimilar
  depth_none s t compatible = compatible

  pub depth_more : (k s t : ℕ) → Compatible a b says s t → Matched a b (Bisimilar a b says k) s t → Bisimilar a b says (suc k) s t
  unfolding Bisimilar
  depth_more k s t compatible matched = (compatible, matched)

  pub compatible_at : (k s t : ℕ) → Bisimilar a b says k s t → Compatible a b says s t
  unfolding Bisimilar
  compatible_at zero s t deep = deep
  compatible_at (suc k) s t deep = deep.0

  pub matched_at : (k s t : ℕ) → Bisimilar a b says (suc k) s t → Matched a b (Bisimilar a b says k) s t
  unfolding Bisimilar
  matched_at k s t deep = deep.1

  pub one_less : (k s t : ℕ) → Bisimilar a b says (suc k) s t → Bisimilar a b says k s t
  one_less zero s t deep = depth_none s t (compatible_at 1 s t deep)
  one_less (suc k) s t deep =
      depth_more k s t (compatible_at (suc (suc k)) s t deep)
      (matched_more a b (Bisimilar a b says (suc k)) (Bisimilar a b says k) s t (one_less k) (matched_at (suc k) s t deep))

  pub less_deep : (j k s t : ℕ) → j ≤ k → Bisimilar a b says k s t → Bisimilar a b says j s t
  less_deep j zero s t low deep = let e : 0 ≡ j = omega (arith, low) in subst (λ n. Bisimilar a b says n s t) e deep
  less_deep j (suc k) s t low deep =
      ⊎_elim
      (λ (last : j ≡ suc k). subst (λ n. Bisimilar a b says n s t) (sym last) deep)
      (λ (lower : j < suc k). less_deep j k s t (omega (arith, lower)) (one_less k s t deep))
      (cases_le j (suc k) low)
