-- The steps of two states side by side: each step of the first with each step of the second.
use Rattle.std.specs.Prelude.{◌≡◌, ℕ, zero, suc, ◌+◌, ◌-◌, ◌*◌, ◌/◌, ◌%◌, ◌<◌, ◌≤◌, List, [], ◌∷◌, map, length, slice_index, slice_index_or}
use Rattle.std.proofs.Common.{sym, ap, subst, ◌∙◌, ⊎_elim, zero-mul, mul-zero, suc-mul, mod-eq_of_lt, add-one, arith}
use Rattle.std.proofs.Math.Nat.{div-eq_of_lt, div-eq-sub-div, mod-eq-sub-mod}
use Rattle.std.proofs.Math.Arith.{digits_lt}
use Rattle.std.proofs.lemmas.List.{length-append, length-map, get_or_append_left, get_or-append_right, get_or-map}
use Rattle.std.proofs.lemmas.Nat.{div-add-mod', div-mul-add, mod-mul-add, div_below, mod_below}
use Rattle.std.proofs.lemmas.Bool.{cases_lt}
use Rattle.plan.specs.Model.{Model, Lawful, Distinct}
use Rattle.join.specs.Joining.{step_pairs}

-- there are as many pairs as the product says
pub pairs_length : (n : ℕ) (xs ys : List ℕ) → length (step_pairs n xs ys) ≡ length xs * length ys
pairs_length n [] ys = sym (zero-mul (length ys))
pairs_length n (x ∷ xs) ys =
    let rest = pairs_length n xs ys in
    let front : length (map (λ y. x * n + y) ys) ≡ length ys = length-map ys (λ y. x * n + y) in
    length-append (map (λ y. x * n + y) ys) (step_pairs n xs ys) ∙ omega (arith, suc-mul (length xs) (length ys))

-- where there is a pair, the second has a step
some_second : (h m i : ℕ) → i < h * m → 0 < m
some_second h zero i low = absurd (omega (arith, mul-zero h))
some_second h (suc m) i low = omega arith

-- pair i is step i / m of the first with step i % m of the second, which has m steps
pub pairs_at : (n : ℕ) (xs ys : List ℕ) (i : ℕ) → i < length xs * length ys
    → slice_index (step_pairs n xs ys) i ≡ slice_index xs (i / length ys) * n + slice_index ys (i % length ys)
pairs_at n [] ys i low = absurd (omega (arith, zero-mul (length ys)))
pairs_at n (x ∷ xs) ys i low =
    let f : ℕ → ℕ = λ y. x * n + y in
    let m = length ys in
    let front : length (map f ys) ≡ m = length-map ys f in
    let whole = suc-mul (length xs) m in
    ⊎_elim
    (λ (here : i < m).
    get_or_append_left (map f ys) (step_pairs n xs ys) 0 i (omega arith)
    ∙ get_or-map f ys i 0 0 here
    ∙ ap (λ q. slice_index (x ∷ xs) q * n + slice_index ys i) (sym (div-eq_of_lt here))
    ∙ ap (λ k. slice_index (x ∷ xs) (i / m) * n + slice_index ys k) (sym (mod-eq_of_lt here)))
    (λ (later : m ≤ i).
    let some : 0 < m = some_second (suc (length xs)) m i low in
    let next : i / m ≡ suc ((i - m) / m) = div-eq-sub-div some later ∙ add-one ((i - m) / m) in
    get_or-append_right (map f ys) (step_pairs n xs ys) m i 0 front later
    ∙ pairs_at n xs ys (i - m) (omega arith)
    ∙ ap (λ q. slice_index (x ∷ xs) q * n + slice_index ys ((i - m) % m)) (sym next)
    ∙ ap (λ k. slice_index (x ∷ xs) (i / m) * n + slice_index ys k) (sym (mod-eq-sub-mod later)))
    (cases_lt i m)

-- pair i is made of a step of the first and a step of the second, where they have h and m
pub pair_places : (h m i : ℕ) → i < h * m → (i / m < h) × (i % m < m)
pair_places h m i low = let some = some_second h m i low in (div_below i m h some low, mod_below i m some)

-- each pair stands for a state, where the steps of both do
pub pairs_inside : (n h : ℕ) (xs ys : List ℕ) → ((i : ℕ) → i < length xs → slice_index xs i < h)
    → ((i : ℕ) → i < length ys → slice_index ys i < n)
    → (i : ℕ) → i < length (step_pairs n xs ys) → slice_index (step_pairs n xs ys) i < h * n
pairs_inside n h xs ys below below' i hi =
    let m = length ys in
    let low : i < length xs * m = subst (λ k. i < k) (pairs_length n xs ys) hi in
    let places = pair_places (length xs) m i low in
    let at = pairs_at n xs ys i low in
    let within = digits_lt (below (i / m) places.0) (below' (i % m) places.1) in
    omega arith

-- no pair twice, where neither list has a step twice
pub pairs_distinct : (n : ℕ) (xs ys : List ℕ) → Distinct xs → Distinct ys
    → ((i : ℕ) → i < length ys → slice_index ys i < n) → Distinct (step_pairs n xs ys)
pairs_distinct n xs ys apart apart' below i j hi hj e =
    let m = length ys in
    let li : i < length xs * m = subst (λ k. i < k) (pairs_length n xs ys) hi in
    let lj : j < length xs * m = subst (λ k. j < k) (pairs_length n xs ys) hj in
    let pi = pair_places (length xs) m i li in
    let pj = pair_places (length xs) m j lj in
    let same : slice_index_or xs (i / m) 0 * n + slice_index ys (i % m) ≡ slice_index xs (j / m) * n + slice_index_or ys (j % m) 0 =
    sym (pairs_at n xs ys i li) ∙ e ∙ pairs_at n xs ys j lj in
    let bi = below (i % m) pi.1 in
    let bj = below (j % m) pj.1 in
    let first : i / m ≡ j / m =
    apart (i / m) (j / m) pi.0 pj.0
    (sym (div-mul-add (slice_index xs (i / m)) n (slice_index ys (i % m)) bi)
    ∙ ap (λ v. v / n) same
    ∙ div-mul-add (slice_index xs (j / m)) n (slice_index ys (j % m)) bj) in
    let second : i % m ≡ j % m =
    apart' (i % m) (j % m) pi.1 pj.1
    (sym (mod-mul-add (slice_index xs (i / m)) n (slice_index ys (i % m)) bi)
    ∙ ap (λ v. v % n) same
    ∙ mod-mul-add (slice_index xs (j / m)) n (slice_index ys (j % m)) bj) in
    sym (div-add-mod' i m) ∙ ap (λ q. q * m + i % m) first ∙ ap (λ k. j / m * m + k) second ∙ div-add-mod' j m

-- what is known of step i of x and y side by side, where y has m steps
pub record StepTaken (a b : Model) (x y m i : ℕ) : Type 0 where
  pub some : 0 < m
  pub first_exists : slice_index_or (a.steps x) (i / m) 0 < a.states
  pub second_exists : slice_index_or (b.steps y) (i % m) 0 < b.states
  pub leads : slice_index_or (step_pairs b.states (a.steps x) (b.steps y)) i 0 ≡ slice_index (a.steps x) (i / m) * b.states + slice_index (b.steps y) (i % m)

-- it is known of each step that there is
pub step_taken : (a b : Model) → Lawful a → Lawful b → (x y m i : ℕ) → m ≡ length (b.steps y)
    → i < length (step_pairs b.states (a.steps x) (b.steps y)) → StepTaken a b x y m i
step_taken a b la lb x y m i is hi =
    let xs = a.steps x in
    let ys = b.steps y in
    let low : i < length xs * length ys = subst (λ k. i < k) (pairs_length b.states xs ys) hi in
    let places = pair_places (length xs) (length ys) i low in
    subst (λ k. StepTaken a b x y k i) (sym is)
    (record {
      some = some_second (length xs) (length ys) i low;
      first_exists = la.inside x (i / length ys) places.0;
      second_exists = lb.inside y (i % length ys) places.1;
      leads = pairs_at b.states xs ys i low;
    })
