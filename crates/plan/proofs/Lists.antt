-- Lists of steps without repeats.
use Rattle.std.proofs.Common.{◌≡◌, ℕ, ◌+◌, ◌<◌, ◌≤◌, List, [], ◌∷◌, ◌++◌, length, sym, ◌∙◌, ⊎_elim, arith}
use Rattle.std.specs.List.{AllByRecursion as All}
use Rattle.std.proofs.ByRecursion.{All-get_or}
use Rattle.std.proofs.lemmas.List.{get_or_append_left, get_or_push, length_push}
use Rattle.std.proofs.lemmas.Bool.{cases_lt}
use Rattle.plan.specs.Model.{Distinct}

pub distinct_none : Distinct []
distinct_none i j hi hj e = absurd (omega (arith, hi))

-- one more element that none of the earlier ones equals
pub distinct_push : (xs : List ℕ) (x : ℕ) → Distinct xs → All (λ y. y ≡ x → ⊥) xs → Distinct (xs ++ x ∷ [])
distinct_push xs x apart other i j hi hj e =
    let long : length (xs ++ x ∷ []) ≡ length xs + 1 = length_push xs x in
    ⊎_elim
    (λ (li : i < length xs).
    ⊎_elim
    (λ (lj : j < length xs). apart i j li lj (sym (get_or_append_left xs (x ∷ []) 0 i li) ∙ e ∙ get_or_append_left xs (x ∷ []) 0 j lj))
    (λ (lj : length xs ≤ j).
    let last : length xs ≡ j = omega arith in
    absurd
    (All-get_or (λ y. y ≡ x → ⊥) xs i 0 li other
    (sym (get_or_append_left xs (x ∷ []) 0 i li) ∙ e ∙ get_or_push xs x 0 j last)))
    (cases_lt j (length xs)))
    (λ (li : length xs ≤ i).
    let last : length xs ≡ i = omega arith in
    ⊎_elim
    (λ (lj : j < length xs).
    absurd
    (All-get_or (λ y. y ≡ x → ⊥) xs j 0 lj other
    (sym (get_or_append_left xs (x ∷ []) 0 j lj) ∙ sym e ∙ get_or_push xs x 0 i last)))
    (λ (lj : length xs ≤ j). omega arith)
    (cases_lt j (length xs)))
    (cases_lt i (length xs))
