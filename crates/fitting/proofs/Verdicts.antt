-- Only one verdict is possible, and it is acceptance just where both plans are sound and the pairs fit.
use Rattle.std.proofs.Common.{◌≡◌, ℕ, ◌<◌, true, ◌⊎◌, is_ok, Some, Ok, Err, Decides, Result, sym, refl, ap, ◌∙◌, subst, inl, inr, ⊎_elim, arith}
use Rattle.std.proofs.lemmas.Bool.{cases_order, both_ways}
use Rattle.plan.specs.declared.answer.Side.{Side}
use Rattle.plan.specs.declared.answer.Side.TheVariants.{First, Second}
use Rattle.plan.specs.Model.{Model, Lawful}
use Rattle.plan.specs.Runs.{Sound}
use Rattle.plan.proofs.Closings.{keeps_closing}
use Rattle.vet.proofs.Faults.{one_finding, same_lowest}
use Rattle.rules.specs.Rules.{Says, Acceptable, LowestRefused, RefusedOn}
use Rattle.pairs.specs.Pairs.{Has, Pairs}
use Rattle.pairs.specs.Listing.{Earlier, pair_count}
use Rattle.fitting.specs.declared.misfit.Incomparable.{Incomparable}
use Rattle.fitting.specs.declared.misfit.Incomparable.TheVariants.{Unsound, Channels}
use Rattle.fitting.specs.declared.misfit.Misfit.{Misfit}
use Rattle.fitting.specs.declared.misfit.Misfit.TheVariants.{Plans, StartsApart, Unacceptable, Uncovered}
use Rattle.fitting.specs.Bisimilarity.{OnlyMarked, AllAcceptable, AllCovered, Agree}
use Rattle.fitting.specs.Judging.{Asked, OnlyOne, NamesUnsound, PlansAsked, NamesUnacceptable, NamesUncovered, FirstSuch, IsUncovered, SomeUncovered, FirstAt, Judges, Accepted}
use Rattle.fitting.specs.Numbers.{verdict_numbers}
use Rattle.fitting.proofs.Coverage.{matched_covered}
use Rattle.fitting.proofs.Depths.{joined_bisimilar}

-- one question more
pub asked_one : {R : Type 0} (question : Type 0) (refuses next : R → Type 0) → OnlyOne refuses → OnlyOne next → OnlyOne (Asked question refuses next)
asked_one question refuses next one two r other p q =
    ⊎_elim
    (λ (n : (question → ⊥) × refuses r).
    ⊎_elim
    (λ (n' : (question → ⊥) × refuses other). one r other n.1 n'.1)
    (λ (y' : question × next other). absurd (n.0 y'.0))
    q)
    (λ (y : question × next r).
    ⊎_elim
    (λ (n' : (question → ⊥) × refuses other). absurd (n'.0 y.0))
    (λ (y' : question × next other). two r other y.1 y'.1)
    q)
    p

-- where it was not refused, the question was answered yes
pub not_refused : {Question Refused Next : Type 0} → ((Question → ⊥) × Refused) ⊎ (Question × Next) → (Refused → ⊥) → Question × Next
not_refused asked never = ⊎_elim (λ n. absurd (never n.1)) (λ y. y) asked

-- after the answer yes, what follows decides
pub answered_yes : {Question Refused Next : Type 0} → ((Question → ⊥) × Refused) ⊎ (Question × Next) → Question → Next
answered_yes asked yes-answer = ⊎_elim (λ n. absurd (n.0 yes-answer)) (λ y. y.1) asked

-- a result that is named outright
pub named_one : {R : Type 0} (x : R) → OnlyOne {R = R} (λ r. r ≡ x)
named_one x r other p q = p ∙ sym q

-- two pairs are in order, or the same
cases_pairs : (s t x y : ℕ) → (Earlier s t x y) ⊎ ((Earlier x y s t) ⊎ ((s ≡ x) × (t ≡ y)))
cases_pairs s t x y =
    ⊎_elim
    (λ (same : s ≡ x).
    ⊎_elim
    (λ (same' : t ≡ y). inr (inr (same, same')))
    (⊎_elim (λ (less : t < y). inl (inr (same, less))) (λ (more : y < t). inr (inl (inr (sym same, more)))))
    (cases_order t y))
    (⊎_elim (λ (less : s < x). inl (inl less)) (λ (more : x < s). inr (inl (inl more))))
    (cases_order s x)

pub same_first : (pairs : Pairs) (P : ℕ → ℕ → Type 0) (s t x y : ℕ) → FirstSuch pairs P s t → FirstSuch pairs P x y → (s ≡ x) × (t ≡ y)
same_first pairs P s t x y one two =
    ⊎_elim
    (λ (earlier : Earlier s t x y). absurd (two.none_earlier s t earlier one.stands one.such))
    (⊎_elim
    (λ (later : Earlier x y s t). absurd (one.none_earlier x y later two.stands two.such))
    (λ (same : (s ≡ x) × (t ≡ y)). same))
    (cases_pairs s t x y)

module _ (a b : Model) where
  pub plans_one : {R : Type 0} (refused : Incomparable → R) (next : R → Type 0) → OnlyOne next → OnlyOne (PlansAsked a b refused next)
  plans_one refused next one =
      asked_one (Sound a) _ _
      (λ r other p q. p.2 ∙ ap (λ f. refused (Unsound First f)) (one_finding a p.0 q.0 p.1 q.1) ∙ sym q.2)
      (asked_one (Sound b) _ _
      (λ r other p q. p.2 ∙ ap (λ f. refused (Unsound Second f)) (one_finding b p.0 q.0 p.1 q.1) ∙ sym q.2)
      (asked_one (a.channels ≡ b.channels) _ _ (named_one (refused (Channels a.channels b.channels))) one))

  -- both plans are sound and have equally many channels: what follows decides
  pub plans_pass : {R : Type 0} (refused : Incomparable → R) (next : R → Type 0) (r : R) → Sound a → Sound b → a.channels ≡ b.channels → next r → PlansAsked a b refused next r
  plans_pass refused next r sound sound' as_many rest = inr (sound, inr (sound', inr (as_many, rest)))

  -- what refuses the plans alone refuses them whatever follows
  pub plans_refuse : {R : Type 0} (refused : Incomparable → R) (next : R → Type 0) (e : Incomparable)
      → PlansAsked a b (λ x. x) (λ _. ⊥) e → PlansAsked a b refused next (refused e)
  plans_refuse refused next e asked =
      ⊎_elim
      (λ (n : (Sound a → ⊥) × NamesUnsound a First (λ x. x) e). inl (n.0, (n.1.0, n.1.1, ap refused n.1.2)))
      (λ (y : Sound a × Asked (Sound b) (NamesUnsound b Second (λ x. x)) (Asked (a.channels ≡ b.channels) (λ (x : Incomparable). x ≡ Channels a.channels b.channels) (λ _. ⊥)) e).
      inr (
        y.0,
        ⊎_elim
            (λ (n : (Sound b → ⊥) × NamesUnsound b Second (λ x. x) e). inl (n.0, (n.1.0, n.1.1, ap refused n.1.2)))
            (λ (z : Sound b × Asked (a.channels ≡ b.channels) (λ (x : Incomparable). x ≡ Channels a.channels b.channels) (λ _. ⊥) e).
            inr (
              z.0,
              ⊎_elim
                  (λ (n : (a.channels ≡ b.channels → ⊥) × (e ≡ Channels a.channels b.channels)). inl (n.0, ap refused n.1))
                  (λ (w : (a.channels ≡ b.channels) × ⊥). absurd w.1)
                  z.1,
            ))
            y.1,
      ))
      asked

  module _ (says : Says) (pairs : Pairs) where
    unacceptable_one : OnlyOne (NamesUnacceptable a b says pairs)
    unacceptable_one r other p q =
        let same = same_first pairs (λ x y. Acceptable a b says x y → ⊥) p.0 p.1 q.0 q.1 p.3.0 q.3.0 in
        let s_is : p.0 ≡ q.0 = same.0 in
        let t_is : p.1 ≡ q.1 = same.1 in
        let here : LowestRefused a b says q.0 q.1 (Some p.2) =
        subst (λ s. LowestRefused a b says s q.1 (Some p.2)) s_is (subst (λ t. LowestRefused a b says p.0 t (Some p.2)) t_is p.3.1) in
        let k_is : p.2 ≡ q.2 = same_lowest (RefusedOn a b says q.0 q.1) p.2 q.2 here q.3.1 in
        p.4 ∙ ap (λ s. Err (Unacceptable s p.1 p.2)) s_is ∙ ap (λ t. Err (Unacceptable q.0 t p.2)) t_is ∙ ap (λ k. Err (Unacceptable q.0 q.1 k)) k_is ∙ sym q.4

    -- at one pair: the side, and then the closing
    same_at : (s t : ℕ) (side side' : Side) (x x' : ℕ) → FirstAt a b pairs side s t x → FirstAt a b pairs side' s t x' → (side ≡ side') × (x ≡ x')
    same_at s t First First x x' one two = (refl, same_lowest (IsUncovered a b pairs First s t) x x' one two)
    same_at s t First Second x x' one two = absurd (two.0 x one.0)
    same_at s t Second First x x' one two = absurd (one.0 x' two.0)
    same_at s t Second Second x x' one two = (refl, same_lowest (IsUncovered a b pairs Second s t) x x' one.1 two.1)

    uncovered_one : OnlyOne (NamesUncovered a b pairs)
    uncovered_one r other p q =
        let same = same_first pairs (SomeUncovered a b pairs) p.1 p.2 q.1 q.2 p.4.0 q.4.0 in
        let s_is : p.1 ≡ q.1 = same.0 in
        let t_is : p.2 ≡ q.2 = same.1 in
        let here : FirstAt a b pairs p.0 q.1 q.2 p.3 =
        subst (λ s. FirstAt a b pairs p.0 s q.2 p.3) s_is (subst (λ t. FirstAt a b pairs p.0 p.1 t p.3) t_is p.4.1) in
        let at = same_at q.1 q.2 p.0 q.0 p.3 q.3 here q.4.1 in
        p.5
        ∙ ap (λ s. Err (Uncovered p.0 s p.2 p.3)) s_is
        ∙ ap (λ t. Err (Uncovered p.0 q.1 t p.3)) t_is
        ∙ ap (λ v. Err (Uncovered v q.1 q.2 p.3)) at.0
        ∙ ap (λ x. Err (Uncovered q.0 q.1 q.2 x)) at.1
        ∙ sym q.5

    pub judges_one : OnlyOne (Judges a b says pairs)
    judges_one =
        plans_one (λ e. Err (Plans e)) _
        (asked_one (Has pairs a.start b.start) _ _ (named_one (Err StartsApart))
        (asked_one (AllAcceptable a b says pairs) _ _ unacceptable_one
        (asked_one (AllCovered a b pairs) _ _ uncovered_one (named_one (Ok (pair_count pairs))))))

    -- every question was answered yes
    pub record Passed : Type 0 where
      pub first_sound : Sound a
      pub second_sound : Sound b
      pub joins_starts : Has pairs a.start b.start
      pub all_acceptable : AllAcceptable a b says pairs
      pub all_covered : AllCovered a b pairs

    pub accepted_passed : (r : Result ℕ Misfit) → Judges a b says pairs r → is_ok r ≡ true → Passed
    accepted_passed r judges ok =
        let never : (e : Misfit) → r ≡ Err e → ⊥ = λ e is. both_ways (is_ok r) (ap is_ok is) ok in
        let one = not_refused judges (λ n. never _ n.2) in
        let two = not_refused one.1 (λ n. never _ n.2) in
        let three = not_refused two.1 (never _) in
        let four = not_refused three.1 (never _) in
        let five = not_refused four.1 (λ n. never _ n.4) in
        let six = not_refused five.1 (λ n. never _ n.5) in
        record { first_sound = one.0; second_sound = two.0; joins_starts = four.0; all_acceptable = five.0; all_covered = six.0 }

    -- accepted just where both plans are sound and the pairs fit
    pub judges_accepted : (r : Result ℕ Misfit) → OnlyMarked a b pairs → Judges a b says pairs r → Decides (is_ok r) (Accepted a b says pairs)
    judges_accepted r marked judges = (
      λ ok.
          let passed = accepted_passed r judges ok in
          record {
            first_sound = passed.first_sound;
            second_sound = passed.second_sound;
            fits = record { joins_starts = passed.joins_starts; only_marked = marked; all_acceptable = passed.all_acceptable; all_covered = passed.all_covered };
          },
      λ accepted.
          let fits = accepted.fits in
          let one = answered_yes judges accepted.first_sound in
          let two = answered_yes one accepted.second_sound in
          let three = answered_yes two (fits.all_acceptable a.start b.start fits.joins_starts).as_many in
          let four = answered_yes three fits.joins_starts in
          let five = answered_yes four fits.all_acceptable in
          let six = answered_yes five fits.all_covered in
          ap is_ok six,
    )

    -- where it is accepted, the two plans agree
    pub judges_agree : (r : Result ℕ Misfit) → Lawful a → Lawful b → Judges a b says pairs r → is_ok r ≡ true → Agree a b says
    judges_agree r laws laws' judges ok =
        let passed = accepted_passed r judges ok in
        record {
          to_every_depth = λ k.
              joined_bisimilar a b says pairs passed.all_acceptable passed.all_covered k a.start b.start passed.joins_starts
              passed.first_sound.start_marked passed.second_sound.start_marked;
          first_closes = keeps_closing a laws passed.first_sound;
          second_closes = keeps_closing b laws' passed.second_sound;
        }

-- a refusal that names a pair or a closing says no to its question
pub unacceptable_not : (a b : Model) (says : Says) (pairs : Pairs) (r : Result ℕ Misfit) → NamesUnacceptable a b says pairs r → AllAcceptable a b says pairs → ⊥
unacceptable_not a b says pairs r names all = names.3.0.such (all names.0 names.1 names.3.0.stands)

pub uncovered_not : (a b : Model) (pairs : Pairs) (r : Result ℕ Misfit) → NamesUncovered a b pairs r → AllCovered a b pairs → ⊥
uncovered_not a b pairs r names all = matched_covered a b pairs names.1 names.2 (all names.1 names.2 names.4.0.stands) names.4.0.such

-- all that a verdict tells
pub record Told (a b : Model) (says : Says) (pairs : Pairs) (r : Result ℕ Misfit) : Type 0 where
  pub judges : Judges a b says pairs r
  pub only : OnlyOne (Judges a b says pairs)
  pub accepts : Decides (is_ok r) (Accepted a b says pairs)
  pub agrees : is_ok r ≡ true → Agree a b says

pub told : (a b : Model) (says : Says) (pairs : Pairs) (r : Result ℕ Misfit) → Lawful a → Lawful b → OnlyMarked a b pairs → Judges a b says pairs r → Told a b says pairs r
told a b says pairs r laws laws' marked verdict =
    let decides = judges_accepted a b says pairs r marked verdict in
    record {
      judges = verdict;
      only = judges_one a b says pairs;
      accepts = decides;
      agrees = judges_agree a b says pairs r laws laws' verdict;
    }

-- only acceptance has number 0
pub accepted_number : (r : Result ℕ Misfit) → (verdict_numbers r).number ≡ 0 → is_ok r ≡ true
accepted_number (Ok count) zero_number = refl
accepted_number (Err (Plans (Unsound side finding))) zero_number = absurd (omega (arith, zero_number))
accepted_number (Err (Plans (Channels p q))) zero_number = absurd (omega (arith, zero_number))
accepted_number (Err StartsApart) zero_number = absurd (omega (arith, zero_number))
accepted_number (Err (Unacceptable s t channel)) zero_number = absurd (omega (arith, zero_number))
accepted_number (Err (Uncovered side s t closing)) zero_number = absurd (omega (arith, zero_number))
