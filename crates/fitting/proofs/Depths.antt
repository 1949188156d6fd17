-- The pairs of a fitting set are bisimilar to every depth.
use Rattle.std.proofs.Common.{ℕ, zero, suc}
use Rattle.plan.specs.Model.{Model}
use Rattle.plan.specs.Runs.{Marked}
use Rattle.rules.specs.Rules.{Says}
use Rattle.pairs.specs.Pairs.{Has, Pairs}
use Rattle.fitting.specs.Bisimilarity.{Matched, AllAcceptable, AllCovered, Fits, Compatible, Bisimilar}

-- what is matched by P is matched by whatever P implies
pub matched_more : (a b : Model) (P Q : ℕ → ℕ → Type 0) (s t : ℕ) → ((x y : ℕ) → P x y → Q x y) → Matched a b P s t → Matched a b Q s t
matched_more a b P Q s t more matched = record {
  forth = λ x next. let found = matched.forth x next in (found.0, found.1, more x found.0 found.2);
  back = λ y next. let found = matched.back y next in (found.0, found.1, more found.0 y found.2);
}

-- Two marked states of a pair of a set are bisimilar to every depth, where the set joins only acceptable states and covers every next
-- closing: the next closings that it joins are marked again.
module _ (a b : Model) (says : Says) (pairs : Pairs) (acceptable : AllAcceptable a b says pairs) (covered : AllCovered a b pairs) where
  joined_compatible : (s t : ℕ) → Has pairs s t → Marked a s → Marked b t → Compatible a b says s t
  joined_compatible s t has marked marked' = record { first_marked = marked; second_marked = marked'; acceptable = acceptable s t has }

  pub joined_bisimilar : (k s t : ℕ) → Has pairs s t → Marked a s → Marked b t → Bisimilar a b says k s t
  unfolding Bisimilar
  joined_bisimilar zero s t has marked marked' = joined_compatible s t has marked marked'
  joined_bisimilar (suc k) s t has marked marked' =
      let matched = covered s t has in (
        joined_compatible s t has marked marked',
        record {
          forth = λ x next. let found = matched.forth x next in (found.0, found.1, joined_bisimilar k x found.0 found.2 next.1 found.1.1);
          back = λ y next. let found = matched.back y next in (found.0, found.1, joined_bisimilar k found.0 y found.2 found.1.1 next.1);
        },
      )

-- each pair of a fitting set is bisimilar to every depth
pub fits_bisimilar : (a b : Model) (says : Says) (pairs : Pairs) → Fits a b says pairs → (k s t : ℕ) → Has pairs s t → Bisimilar a b says k s t
fits_bisimilar a b says pairs fits k s t has =
    let marked = fits.only_marked s t has in
    joined_bisimilar a b says pairs fits.all_acceptable fits.all_covered k s t has marked.0 marked.1
