-- Only one result of a search for the largest fitting set is possible.
use Rattle.std.proofs.Common.{◌≡◌, ℕ, Ok, Err, sym, ap, ◌∙◌}
use mathlib.Core.Path.{fun_ext}
use Rattle.std.proofs.lemmas.Bool.Decides.{same_from_decides}
use Rattle.plan.specs.Model.{Model}
use Rattle.rules.specs.Rules.{Says}
use Rattle.pairs.specs.Pairs.{Pairs, Has}
use Rattle.fitting.specs.Judging.{OnlyOne}
use Rattle.fitting.proofs.Verdicts.{asked_one, named_one, plans_one}
use Rattle.largest.specs.declared.nofit.NoFit.TheVariants.{Plans, NoneFits}
use Rattle.largest.specs.Rounds.{SomeFits, Largest}
use Rattle.largest.specs.Finding.{FindsLargest}

-- sets that have each other's pairs are the same
pub same_pairs : (pairs other : Pairs) → ((s t : ℕ) → Has pairs s t → Has other s t) → ((s t : ℕ) → Has other s t → Has pairs s t) → pairs ≡ other
same_pairs pairs other forth back =
    fun_ext (λ s. fun_ext (λ t. same_from_decides {P = Has other s t} (pairs s t) (other s t) (forth s t, back s t) (λ has. has, λ has. has)))

module _ (a b : Model) (says : Says) where
  pub same_largest : (pairs other : Pairs) → Largest a b says pairs → Largest a b says other → pairs ≡ other
  same_largest pairs other one two = same_pairs pairs other (two.has_every pairs one.fits) (one.has_every other two.fits)

  pub finds_one : OnlyOne (FindsLargest a b says)
  finds_one =
      plans_one a b (λ e. Err (Plans e)) _
      (asked_one (SomeFits a b says) _ _ (named_one (Err NoneFits))
      (λ r other p q. p.2 ∙ ap Ok (same_largest p.0 q.0 p.1 q.1) ∙ sym q.2))
