-- Sets of states, kept as lists of yes and no.
use Rattle.std.proofs.Common.{◌≡◌, ℕ, zero, suc, ◌+◌, ◌<◌, ◌≤◌, Bool, true, false, ◌&&◌, ltb, ◌≢◌, ◌⊎◌, List, length, get_or, set, ap, sym, ◌∙◌, subst, inl, inr, ⊎_elim, arith}
use Rattle.std.proofs.lemmas.List.{get_or-set_same, get_or-set_other, get_or_past}
use Rattle.std.proofs.lemmas.Bool.{cases_eq, cases_lt, both_ways, lt-ltb, le-ltb}
use Rattle.std.specs.Array.{IsFromFnResult, IsFromFnResultFrom}
use Rattle.std.specs.Fn.{Called}
use denote.Param.Members.{Mut}
use Rattle.walk.specs.Walking.{In}

-- who is in a set has a place there
pub in_within : (xs : List Bool) (u : ℕ) → In xs u → u < length xs
in_within xs u there =
    ⊎_elim
    (λ (low : u < length xs). low)
    (λ (high : length xs ≤ u). absurd (both_ways (get_or xs u false) (get_or_past xs u false high) there))
    (cases_lt u (length xs))

-- one more comes in
pub in_new : (xs : List Bool) (i : ℕ) → i < length xs → In (set xs i true) i
in_new xs i within = get_or-set_same xs i true false within

-- and the others stay
pub in_old : (xs : List Bool) (i u : ℕ) → In xs u → In (set xs i true) u
in_old xs i u there =
    ⊎_elim
    (λ (same : u ≡ i). subst (λ k. In (set xs k true) u) same (in_new xs u (in_within xs u there)))
    (λ (other : u ≢ i). get_or-set_other xs i u true false other ∙ there)
    (cases_eq u i)

-- nobody else came in
pub in_cases : (xs : List Bool) (i u : ℕ) → In (set xs i true) u → (u ≡ i) ⊎ In xs u
in_cases xs i u there =
    ⊎_elim
    (λ (same : u ≡ i). inl same)
    (λ (other : u ≢ i). inr (sym (get_or-set_other xs i u true false other) ∙ there))
    (cases_eq u i)

-- the set of those below n that are so, and nobody else
abbrev pub Below : (ℕ → Bool) → ℕ → List Bool → Type 0
Below is n xs = (u : ℕ) → get_or xs u false ≡ (ltb u n && is u)

-- where nobody from n on is so, the set is of all that are
pub all_below : (is : ℕ → Bool) (n : ℕ) → ((u : ℕ) → n ≤ u → is u ≡ false) → (xs : List Bool) → Below is n xs → (u : ℕ) → get_or xs u false ≡ is u
all_below is n none xs below u =
    ⊎_elim
    (λ (low : u < n). below u ∙ ap (λ within. within && is u) (lt-ltb u n low))
    (λ (high : n ≤ u). below u ∙ ap (λ within. within && is u) (le-ltb u n high) ∙ sym (none u high))
    (cases_lt u n)

module _ {F : Type 0} (g : Mut F (ℕ × Unit {0}) Bool) (f : F) (is : ℕ → Bool) (answers : (u : ℕ) (yes : Bool) (q : F) → Called g f (u, tt) yes q → (q ≡ f) × (yes ≡ is u)) where
  -- each of the n places from i on has what the calls gave
  each_place : (xs : List Bool) (i n : ℕ) → IsFromFnResultFrom g f xs i n → (u : ℕ) → i ≤ u → u < i + n → get_or xs u false ≡ is u
  each_place xs i zero calls u from below = absurd (omega arith)
  each_place xs i (suc n) calls u from below =
      let call = answers i calls.1 calls.0 calls.3 in
      ⊎_elim
      (λ (here : u ≡ i). subst (λ k. get_or xs k false ≡ is k) (sym here) (calls.2.1 false ∙ call.1))
      (λ (later : u ≢ i). each_place xs (i + 1) n (subst (λ p. IsFromFnResultFrom g p xs (i + 1) n) call.0 calls.4) u (omega (arith, later)) (omega arith))
      (cases_eq u i)

  -- a set that is made place by place
  pub made : (xs : List Bool) (n : ℕ) → IsFromFnResult g f xs n → Below is n xs
  made xs n result u =
      ⊎_elim
      (λ (low : u < n). rw (lt-ltb u n low) (each_place xs 0 n result.each u (omega arith) (omega arith)))
      (λ (high : n ≤ u). rw (le-ltb u n high) (get_or_past xs u false (omega (arith, result.long))))
      (cases_lt u n)
