-- What judging a set of pairs answers: the questions in their order.
use Rattle.std.specs.Prelude.{◌≡◌, ℕ, ◌⊎◌, Some, Ok, Err, Result}
use Rattle.plan.specs.declared.answer.Side.{Side}
use Rattle.plan.specs.declared.answer.Side.TheVariants.{First, Second}
use Rattle.plan.specs.Model.{Model}
use Rattle.plan.specs.Runs.{NextClosing, Sound}
use Rattle.vet.specs.declared.finding.Finding.{Finding}
use Rattle.vet.specs.Findings.{Finds, LowestSuch}
use Rattle.rules.specs.Rules.{Says, Acceptable, LowestRefused}
use Rattle.pairs.specs.Pairs.{Pairs, Has}
use Rattle.pairs.specs.Listing.{Earlier, pair_count}
use Rattle.fitting.specs.declared.misfit.Incomparable.{Incomparable}
use Rattle.fitting.specs.declared.misfit.Incomparable.TheVariants.{Unsound, Channels}
use Rattle.fitting.specs.declared.misfit.Misfit.{Misfit}
use Rattle.fitting.specs.declared.misfit.Misfit.TheVariants.{Plans, StartsApart, Unacceptable, Uncovered}
use Rattle.fitting.specs.Bisimilarity.{AllAcceptable, AllCovered, Fits}

-- A question: where it is answered no, that decides the result; where it is answered yes, what follows does.
abbrev pub Asked : {R : Type 0} → Type 0 → (R → Type 0) → (R → Type 0) → R → Type 0
Asked question refuses next r = ((question → ⊥) × refuses r) ⊎ (question × next r)

-- only one result is possible
abbrev pub OnlyOne : {R : Type 0} → (R → Type 0) → Type 0
OnlyOne {R} P = (r other : R) → P r → P other → r ≡ other

-- the refusal names the side of this plan, with what vetting finds of it
abbrev pub NamesUnsound : {R : Type 0} → Model → Side → (Incomparable → R) → R → Type 0
NamesUnsound m side refused r = (f : Finding) × Finds m f × (r ≡ refused (Unsound side f))

-- Is each plan sound, the first and then the second? Have both equally many channels?
abbrev pub PlansAsked : {R : Type 0} → Model → Model → (Incomparable → R) → (R → Type 0) → R → Type 0
PlansAsked a b refused next =
    Asked (Sound a) (NamesUnsound a First refused)
    (Asked (Sound b) (NamesUnsound b Second refused)
    (Asked (a.channels ≡ b.channels) (λ r. r ≡ refused (Channels a.channels b.channels)) next))

-- the plan of this side is not sound, and the refusal says so
abbrev pub SideUnsound : Model → Side → Incomparable → Type 0
SideUnsound m side e = (Sound m → ⊥) × NamesUnsound m side (λ x. x) e

-- all three are answered yes
pub record Comparable (a b : Model) : Type 0 where
  pub first_sound : Sound a
  pub second_sound : Sound b
  pub as_many_channels : a.channels ≡ b.channels

-- one is answered no, and refuses so
abbrev pub PlansRefused : Model → Model → Incomparable → Type 0
PlansRefused a b = PlansAsked a b (λ e. e) (λ _. ⊥)

-- the pair of s and t is in the set and has P, and no earlier pair of the set has P
pub record FirstSuch (pairs : Pairs) (P : ℕ → ℕ → Type 0) (s t : ℕ) : Type 0 where
  pub stands : Has pairs s t
  pub such : P s t
  pub none_earlier : (x y : ℕ) → Earlier x y s t → Has pairs x y → P x y → ⊥

-- the first pair that is not acceptable, with the lowest channel on which the rule says no
abbrev pub FirstUnacceptable : Model → Model → Says → Pairs → ℕ → ℕ → ℕ → Type 0
FirstUnacceptable a b says pairs s t k =
    FirstSuch pairs (λ x y. Acceptable a b says x y → ⊥) s t × LowestRefused a b says s t (Some k)

-- for the pair of s and t, x is a next closing of this side's state that no next closing of the other state forms a pair with
abbrev pub IsUncovered : Model → Model → Pairs → Side → ℕ → ℕ → ℕ → Type 0
IsUncovered a b pairs First s t x = NextClosing a s x × (((y : ℕ) × NextClosing b t y × Has pairs x y) → ⊥)
IsUncovered a b pairs Second s t y = NextClosing b t y × (((x : ℕ) × NextClosing a s x × Has pairs x y) → ⊥)

abbrev pub SomeUncovered : Model → Model → Pairs → ℕ → ℕ → Type 0
SomeUncovered a b pairs s t = (side : Side) × (x : ℕ) × IsUncovered a b pairs side s t x

-- the first side before the second, and the lowest closing of the side
abbrev pub FirstAt : Model → Model → Pairs → Side → ℕ → ℕ → ℕ → Type 0
FirstAt a b pairs First s t x = LowestSuch (IsUncovered a b pairs First s t) x
FirstAt a b pairs Second s t x = ((y : ℕ) → IsUncovered a b pairs First s t y → ⊥) × LowestSuch (IsUncovered a b pairs Second s t) x

-- the first uncovered closing: of the first pair that has one
abbrev pub FirstUncovered : Model → Model → Pairs → Side → ℕ → ℕ → ℕ → Type 0
FirstUncovered a b pairs side s t x = FirstSuch pairs (SomeUncovered a b pairs) s t × FirstAt a b pairs side s t x

-- the refusal names that pair and that channel
abbrev pub NamesUnacceptable : Model → Model → Says → Pairs → Result ℕ Misfit → Type 0
NamesUnacceptable a b says pairs r = (s : ℕ) × (t : ℕ) × (k : ℕ) × FirstUnacceptable a b says pairs s t k × (r ≡ Err (Unacceptable s t k))

-- the refusal names that closing, its side and its pair
abbrev pub NamesUncovered : Model → Model → Pairs → Result ℕ Misfit → Type 0
NamesUncovered a b pairs r = (side : Side) × (s : ℕ) × (t : ℕ) × (x : ℕ) × FirstUncovered a b pairs side s t x × (r ≡ Err (Uncovered side s t x))

-- Does the pair of starts stand? Is every pair acceptable? Is every next closing covered? Success tells how many pairs there are.
abbrev pub PairsAsked : Model → Model → Says → Pairs → Result ℕ Misfit → Type 0
PairsAsked a b says pairs =
    Asked (Has pairs a.start b.start) (λ r. r ≡ Err StartsApart)
    (Asked (AllAcceptable a b says pairs) (NamesUnacceptable a b says pairs)
    (Asked (AllCovered a b pairs) (NamesUncovered a b pairs)
    (λ r. r ≡ Ok (pair_count pairs))))

-- Judging: the questions to the plans, and then those to the pairs.
abbrev pub Judges : Model → Model → Says → Pairs → Result ℕ Misfit → Type 0
Judges a b says pairs = PlansAsked a b (λ e. Err (Plans e)) (PairsAsked a b says pairs)

-- both plans are sound, and the pairs fit
pub record Accepted (a b : Model) (says : Says) (pairs : Pairs) : Type 0 where
  pub first_sound : Sound a
  pub second_sound : Sound b
  pub fits : Fits a b says pairs
