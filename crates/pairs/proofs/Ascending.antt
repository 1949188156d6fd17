-- The listing of a set lists its pairs in ascending order, shown pair by pair.
use Rattle.std.proofs.Common.{◌≡◌, ℕ, zero, suc, ◌+◌, ◌<◌, ◌≤◌, true, false, ◌⊎◌, List, [], ◌∷◌, ◌++◌, length, get_or, sym, refl, ap, ◌∙◌, subst, inl, inr, ⊎_elim, add-one, arith}
use Rattle.std.proofs.lemmas.List.{length_push, get_or_push, get_or_append_left, append-nil, append_assoc}
use Rattle.std.proofs.lemmas.Bool.{cases_Bool, both_ways}
use Rattle.pairs.specs.Pairs.{Pairs}
use Rattle.pairs.specs.Listing.{Earlier, first_at, second_at, partners_below, pairs_below, listing, Lists}
use Rattle.pairs.proofs.Listed.{cases_le, partners_none, partners_with, partners_without, pairs_none, pairs_more, listing_is}

-- these two states stand somewhere in the list
abbrev Place : List (ℕ × ℕ) → ℕ → ℕ → Type 0
Place xs s t = (i : ℕ) × (i < length xs) × (first_at xs i ≡ s) × (second_at xs i ≡ t)

-- the list has just the pairs of the set that come before that of s and t
record ListsBefore (pairs : Pairs) (xs : List (ℕ × ℕ)) (s t : ℕ) : Type 0 where
  ascends : (i j : ℕ) → i < j → j < length xs → Earlier (first_at xs i) (second_at xs i) (first_at xs j) (second_at xs j)
  each_listed : (x y : ℕ) → Earlier x y s t → y < 128 → pairs x y ≡ true → Place xs x y
  each_stands : (i : ℕ) → i < length xs → Earlier (first_at xs i) (second_at xs i) s t × (second_at xs i < 128) × (pairs (first_at xs i) (second_at xs i) ≡ true)

-- one pair more at the end of a list
module _ (xs : List (ℕ × ℕ)) (p : ℕ × ℕ) where
  at_old : (i : ℕ) → i < length xs → get_or (xs ++ p ∷ []) i (0, 0) ≡ get_or xs i (0, 0)
  at_old i low = get_or_append_left xs (p ∷ []) (0, 0) i low

  at_new : get_or (xs ++ p ∷ []) (length xs) (0, 0) ≡ p
  at_new = get_or_push xs p (0, 0) (length xs) refl

  -- what holds of each place of the list and of the pair holds of each place of the longer list
  at_each : (P : ℕ × ℕ → Type 0) → ((i : ℕ) → i < length xs → P (get_or xs i (0, 0))) → P p → (i : ℕ) → i < length (xs ++ p ∷ []) → P (get_or (xs ++ p ∷ []) i (0, 0))
  at_each P old new i low =
      ⊎_elim
      (λ (last : i ≡ length xs). subst (λ j. P (get_or (xs ++ p ∷ []) j (0, 0))) (sym last) (subst P (sym at_new) new))
      (λ (lower : i < length xs). subst P (sym (at_old i lower)) (old i lower))
      (cases_le i (length xs) (omega (arith, length_push xs p)))

  place_old : (s t : ℕ) → Place xs s t → Place (xs ++ p ∷ []) s t
  place_old s t there = (
    there.0,
    omega (arith, length_push xs p, there.1),
    ap (λ q. q.0) (at_old there.0 there.1) ∙ there.2,
    ap (λ q. q.1) (at_old there.0 there.1) ∙ there.3,
  )

  place_new : Place (xs ++ p ∷ []) p.0 p.1
  place_new = (length xs, omega (arith, length_push xs p), ap (λ q. q.0) at_new, ap (λ q. q.1) at_new)

module _ (pairs : Pairs) where
  lists_none : ListsBefore pairs [] 0 0
  lists_none =
      record {
        ascends = λ i j before low. absurd (omega arith);
        each_listed = λ x y before. ⊎_elim (λ low. absurd (omega (arith, low))) (λ low. absurd (omega (arith, low.1))) before;
        each_stands = λ i low. absurd (omega arith);
      }

  -- the pair of s and t, in the set or not
  module _ (xs : List (ℕ × ℕ)) (s t : ℕ) (lists : ListsBefore pairs xs s t) where
    -- a pair that comes before the next is this one or comes before it
    one_less : (x y : ℕ) → Earlier x y s (t + 1) → Earlier x y s t ⊎ ((x ≡ s) × (y ≡ t))
    one_less x y before =
        ⊎_elim
        (λ low. inl (inl low))
        (λ same.
        ⊎_elim
        (λ (last : y ≡ t). inr (same.0, last))
        (λ (lower : y < t). inl (inr (same.0, lower)))
        (cases_le y t (omega (arith, same.1))))
        before

    one_more : (x y : ℕ) → Earlier x y s t → Earlier x y s (t + 1)
    one_more x y before = ⊎_elim inl (λ same. inr (same.0, omega (arith, same.1))) before

    lists_without : pairs s t ≡ false → ListsBefore pairs xs s (t + 1)
    lists_without is =
        record {
          ascends = lists.ascends;
          each_listed = λ x y before low stands.
              ⊎_elim
              (λ earlier. lists.each_listed x y earlier low stands)
              (λ same. absurd (both_ways (pairs s t) is (subst (λ v. pairs s v ≡ true) same.1 (subst (λ v. pairs v y ≡ true) same.0 stands))))
              (one_less x y before);
          each_stands = λ i low. let old = lists.each_stands i low in (one_more _ _ old.0, old.1, old.2);
        }

    lists_with : t < 128 → pairs s t ≡ true → ListsBefore pairs (xs ++ (s, t) ∷ []) s (t + 1)
    lists_with small is =
        record {
          ascends = λ i j before low.
              ⊎_elim
              (λ (last : j ≡ length xs).
              let Behind : ℕ × ℕ → ℕ × ℕ → Type 0 = λ a b. Earlier a.0 a.1 b.0 b.1 in
              subst (λ b. Behind (get_or (xs ++ (s, t) ∷ []) i (0, 0)) b) (sym (ap (λ k. get_or (xs ++ (s, t) ∷ []) k (0, 0)) last ∙ at_new xs (s, t)))
              (subst (λ a. Behind a (s, t)) (sym (at_old xs (s, t) i (omega arith))) (lists.each_stands i (omega arith)).0))
              (λ (lower : j < length xs).
              let Behind : ℕ × ℕ → ℕ × ℕ → Type 0 = λ a b. Earlier a.0 a.1 b.0 b.1 in
              subst (λ b. Behind (get_or (xs ++ (s, t) ∷ []) i (0, 0)) b) (sym (at_old xs (s, t) j lower))
              (subst (λ a. Behind a (get_or xs j (0, 0))) (sym (at_old xs (s, t) i (omega arith))) (lists.ascends i j before lower)))
              (cases_le j (length xs) (omega (arith, length_push xs (s, t))));
          each_listed = λ x y before low stands.
              ⊎_elim
              (λ earlier. place_old xs (s, t) x y (lists.each_listed x y earlier low stands))
              (λ same. subst (λ v. Place (xs ++ (s, t) ∷ []) v y) (sym same.0) (subst (Place (xs ++ (s, t) ∷ []) s) (sym same.1) (place_new xs (s, t))))
              (one_less x y before);
          each_stands =
              at_each xs (s, t) (λ p. Earlier p.0 p.1 s (t + 1) × (p.1 < 128) × (pairs p.0 p.1 ≡ true))
              (λ i low. let old = lists.each_stands i low in (one_more _ _ old.0, old.1, old.2))
              (inr (refl, omega arith), small, is);
        }

  -- a state of the first plan is done with
  lists_row : (xs : List (ℕ × ℕ)) (s : ℕ) → ListsBefore pairs xs s 128 → ListsBefore pairs xs (s + 1) 0
  lists_row xs s lists =
      record {
        ascends = lists.ascends;
        each_listed = λ x y before low stands.
            ⊎_elim
            (λ (lower : x < s + 1).
            ⊎_elim
            (λ (last : x ≡ s). lists.each_listed x y (inr (last, low)) low stands)
            (λ (earlier : x < s). lists.each_listed x y (inl earlier) low stands)
            (cases_le x s (omega arith)))
            (λ none. absurd (omega (arith, none.1)))
            before;
        each_stands = λ i low.
            let old = lists.each_stands i low in (
              ⊎_elim (λ (lower : first_at xs i < s). inl (omega arith)) (λ same. inl (omega (arith, same.0))) old.0,
              old.1,
              old.2,
            );
      }

  lists_partners : (s t : ℕ) → t ≤ 128 → ListsBefore pairs (pairs_below pairs s) s 0 → ListsBefore pairs (pairs_below pairs s ++ partners_below pairs s t) s t
  lists_partners s zero small lists = subst (λ xs. ListsBefore pairs xs s 0) (sym (ap (λ xs. pairs_below pairs s ++ xs) (partners_none pairs s) ∙ append-nil (pairs_below pairs s))) lists
  lists_partners s (suc t) small lists =
      let before = lists_partners s t (omega arith) lists in
      subst (λ n. ListsBefore pairs (pairs_below pairs s ++ partners_below pairs s n) s n) (add-one t)
      (⊎_elim
      (λ (is : pairs s t ≡ true).
      subst (λ xs. ListsBefore pairs xs s (t + 1)) (append_assoc (pairs_below pairs s) (partners_below pairs s t) ((s, t) ∷ []) ∙ ap (λ xs. pairs_below pairs s ++ xs) (sym (partners_with pairs s t is)))
      (lists_with _ s t before (omega arith) is))
      (λ (is : pairs s t ≡ false).
      subst (λ xs. ListsBefore pairs xs s (t + 1)) (ap (λ xs. pairs_below pairs s ++ xs) (sym (partners_without pairs s t is)))
      (lists_without _ s t before is))
      (cases_Bool (pairs s t)))

  lists_pairs : (s : ℕ) → ListsBefore pairs (pairs_below pairs s) s 0
  lists_pairs zero = subst (λ xs. ListsBefore pairs xs 0 0) (sym (pairs_none pairs)) lists_none
  lists_pairs (suc s) =
      subst (λ n. ListsBefore pairs (pairs_below pairs n) n 0) (add-one s)
      (subst (λ xs. ListsBefore pairs xs (s + 1) 0) (sym (pairs_more pairs s))
      (lists_row _ s (lists_partners s 128 (omega arith) (lists_pairs s))))

  -- a list of the pairs before state 128 lists them all
  lists_whole : (xs : List (ℕ × ℕ)) → ListsBefore pairs xs 128 0 → Lists pairs xs
  lists_whole xs lists =
      record {
        ascends = lists.ascends;
        each_listed = λ s t low low' stands. lists.each_listed s t (inl low) low' stands;
        each_stands = λ i low.
            let old = lists.each_stands i low in (
              ⊎_elim (λ (lower : first_at xs i < 128). lower) (λ none. absurd (omega (arith, none.1))) old.0,
              old.1,
              old.2,
            );
      }

  pub lists_all : Lists pairs (listing pairs)
  lists_all = subst (Lists pairs) (sym (listing_is pairs)) (lists_whole _ (lists_pairs 128))
