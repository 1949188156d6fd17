-- The rows of a set of pairs are written to a buffer: the steps of the two loops.
use Rattle.std.proofs.Common.{◌≡◌, ℕ, ◌+◌, ◌*◌, ◌<◌, ◌≤◌, true, false, List, [], ◌∷◌, length, set, sym, refl, ap, ◌∙◌, subst, arith}
use Rattle.pairs.specs.Pairs.{Pairs}
use Rattle.pairs.specs.Listing.{partners_below, pairs_below, listing, pair_count}
use Rattle.pairs.specs.Placing.{Placed}
use Rattle.pairs.proofs.Listed.{partners_none, partners_with, partners_without, partners_grow, length_with, pairs_none, pairs_more, pairs_grow, length_more, count_is, listing_is}
use Rattle.pairs.proofs.Placed.{placed_none, placed_one, placed_more}

module _ (pairs : Pairs) (before : List ℕ) where
  -- the rows of one first state
  module _ (s from : ℕ) where
    pub row_none : Placed (partners_below pairs s 0) before before from from
    row_none = subst (λ xs. Placed xs before before from from) (sym (partners_none pairs s)) (placed_none before from)

    module _ (k at : ℕ) (mid : List ℕ) (room : from + 2 * length (partners_below pairs s 128) ≤ length before) (placed : Placed (partners_below pairs s k) before mid from at) where
      pub row_room : k < 128 → true ≡ pairs s k → at + 2 ≤ length before
      row_room low is = omega (arith, placed.ends, length_with pairs s k (length (partners_below pairs s k)) refl is, partners_grow pairs s (k + 1) 128 (omega arith))

      pub row_with : k < 128 → length mid ≡ length before → true ≡ pairs s k → Placed (partners_below pairs s (k + 1)) before (set (set mid at s) (at + 1) k) from (at + 2)
      row_with low same is =
          subst (λ xs. Placed xs before (set (set mid at s) (at + 1) k) from (at + 2)) (sym (partners_with pairs s k (sym is)))
          (placed_more (partners_below pairs s k) before mid from at (omega arith) placed ((s, k) ∷ []) (set (set mid at s) (at + 1) k) (at + 2)
          (placed_one mid at s k (omega (arith, row_room low is))))

      pub row_without : false ≡ pairs s k → Placed (partners_below pairs s (k + 1)) before mid from at
      row_without is = subst (λ xs. Placed xs before mid from at) (sym (partners_without pairs s k (sym is))) placed

  -- the rows of all first states
  pub rows_none : Placed (pairs_below pairs 0) before before 6 6
  rows_none = subst (λ xs. Placed xs before before 6 6) (sym (pairs_none pairs)) (placed_none before 6)

  module _ (k at : ℕ) (mid : List ℕ) (room : 6 + 2 * pair_count pairs ≤ length before) (placed : Placed (pairs_below pairs k) before mid 6 at) where
    pub rows_room : k < 128 → at + 2 * length (partners_below pairs k 128) ≤ length before
    rows_room low =
        omega (arith, placed.ends, count_is pairs, length_more pairs k (length (pairs_below pairs k)) (length (partners_below pairs k 128)) refl refl, pairs_grow pairs (k + 1) 128 (omega arith))

    pub rows_more : (after : List ℕ) (to : ℕ) → Placed (partners_below pairs k 128) mid after at to → Placed (pairs_below pairs (k + 1)) before after 6 to
    rows_more after to next =
        subst (λ xs. Placed xs before after 6 to) (sym (pairs_more pairs k))
        (placed_more (pairs_below pairs k) before mid 6 at (omega arith) placed (partners_below pairs k 128) after to next)

    pub rows_all : k ≡ 128 → Placed (listing pairs) before mid 6 at
    rows_all all = subst (λ xs. Placed xs before mid 6 at) (ap (pairs_below pairs) all ∙ sym (listing_is pairs)) placed
