-- The rounds of a search: one more, and the last, which changes nothing.
use Rattle.std.proofs.Common.{◌≡◌, ℕ, suc, Bool, Ok, Err, sym, refl, ap, ◌∙◌, subst, inl, inr}
use Rattle.plan.specs.Model.{Model}
use Rattle.rules.specs.Rules.{Says}
use Rattle.pairs.specs.Pairs.{Pairs, Has, kept_pairs}
use Rattle.closings.specs.Tables.{Tabulates, Follows}
use Rattle.fitting.specs.Bisimilarity.{OnlyMarked}
use Rattle.largest.specs.declared.nofit.NoFit.TheVariants.{NoneFits}
use Rattle.closings.specs.declared.sides.Closings.{Closings}
use Rattle.largest.specs.Rounds.{Round, NextRound}
use Rattle.largest.specs.Finding.{FitAsked}
use Rattle.largest.specs.Sweeping.{MatchedBy, Swept}
use Rattle.largest.proofs.Covering.{swept_next}
use Rattle.largest.proofs.Depths.{compatible_at}
use Rattle.largest.proofs.Settling.{round_next, settled_by, settled_largest, none_fits}

-- what a set says of the starts that it was asked for
pub asked_starts : (pairs : Pairs) (s t s' t' : ℕ) (v : Bool) → s ≡ s' → t ≡ t' → v ≡ pairs s t → pairs s' t' ≡ v
asked_starts pairs s t s' t' v first second is = ap (λ x. pairs x t') (sym first) ∙ ap (pairs s) (sym second) ∙ sym is

module _ (a b : Model) (says : Says) where
  -- the set is that of some round
  abbrev pub SomeRound : Pairs → Type 0
  SomeRound pairs = (k : ℕ) × Round a b says k pairs

  -- it is that of some round, and the next round leaves it as it is
  abbrev pub LastRound : Pairs → Type 0
  LastRound pairs = (k : ℕ) × Round a b says k pairs × NextRound a b pairs pairs

  module _ (next : Closings) (first_next : Tabulates (Follows a) (kept_pairs next.first)) (second_next : Tabulates (Follows b) (kept_pairs next.second))
      (old new : Pairs) (some : SomeRound old) (swept : Swept (MatchedBy next old) old new) where
    swept_round : NextRound a b old new
    swept_round =
        let only_marked : OnlyMarked a b old =
        λ s t has. let compatible = compatible_at a b says some.0 s t ((some.1 s t).0 has) in (compatible.first_marked, compatible.second_marked) in
        swept_next a b next first_next second_next old only_marked new swept

    pub round_more : SomeRound new
    round_more = (suc some.0, round_next a b says some.0 old new some.1 swept_round)

    pub round_last : new ≡ old → LastRound new
    round_last same = (
      some.0,
      subst (Round a b says some.0) (sym same) some.1,
      subst (λ (p : Pairs). NextRound a b p new) (sym same) swept_round,
    )

  module _ (pairs : Pairs) (last : LastRound pairs) where
    pub fit_found : Has pairs a.start b.start → FitAsked a b says (Ok pairs)
    fit_found starts =
        let largest = settled_largest a b says last.0 pairs last.1 (settled_by a b says last.0 pairs last.1 last.2) starts in
        inr ((pairs, largest.fits), (pairs, largest, refl))

    pub fit_missed : (Has pairs a.start b.start → ⊥) → FitAsked a b says (Err NoneFits)
    fit_missed apart = inl (none_fits a b says last.0 pairs last.1 apart, refl)
