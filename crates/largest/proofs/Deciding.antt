-- What is refuted by a proof of ⊥ may be assumed to be decided, at each of finitely many places.
use Rattle.std.proofs.Common.{◌≡◌, ℕ, zero, suc, ◌<◌, ◌≢◌, ◌⊎◌, sym, subst, inl, inr, ⊎_elim, arith}
use Rattle.std.proofs.lemmas.Bool.{cases_eq}

-- it cannot fail to hold
abbrev pub Surely : Type 0 → Type 0
Surely P = (P → ⊥) → ⊥

-- it holds, or fails to
abbrev pub Settles : Type 0 → Type 0
Settles P = P ⊎ (P → ⊥)

pub surely_settles : (P : Type 0) → Surely (Settles P)
surely_settles P never = never (inr (λ holds. never (inl holds)))

pub surely_then : {P Q : Type 0} → Surely P → (P → Q) → Surely Q
surely_then sure next never = sure (λ holds. never (next holds))

-- what surely holds at each place below n surely holds at all of them
pub surely_each : (n : ℕ) (P : ℕ → Type 0) → ((i : ℕ) → i < n → Surely (P i)) → Surely ((i : ℕ) → i < n → P i)
surely_each zero P each never = never (λ i low. absurd (omega (arith, low)))
surely_each (suc n) P each never =
    surely_each n P (λ i low. each i (omega (arith, low)))
    (λ below.
    each n (omega arith)
    (λ here.
    never
    (λ i low.
    ⊎_elim
    (λ (last : i ≡ n). subst P (sym last) here)
    (λ (earlier : i ≢ n). below i (omega (arith, low, earlier)))
    (cases_eq i n))))
