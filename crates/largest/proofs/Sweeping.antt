-- A set is swept row by row, place by place: what has not a property is taken out, and a flag tells whether anything was.
use Rattle.std.proofs.Common.{◌≡◌, ℕ, ◌+◌, ◌<◌, Bool, true, false, not, ◌&&◌, ◌||◌, eqb, ◌≢◌, Decides, sym, refl, ap, ◌∙◌, subst, ⊎_elim, arith}
use Rattle.std.proofs.lemmas.Bool.{cases_Bool, cases_eq, and_parts, and_from, and_left, not-true, not_from_true, not_from_false, eqb-true, eq-eqb, both_ways}
use Rattle.pairs.specs.Pairs.{Pairs, Has, is_pair, without_pair}
use Rattle.pairs.specs.Listing.{pair_count}
use Rattle.largest.specs.Sweeping.{RowSwept, RowsSwept, Swept, Tells}
use Rattle.largest.proofs.Counts.{fewer_pairs}

-- a pair was struck
struck_has : (old new : Pairs) (s t : ℕ) → new ≡ without_pair old s t → (x y : ℕ) → Decides (new x y) (Has old x y × ((x ≡ s) × (y ≡ t) → ⊥))
struck_has old new s t is x y =
    let there : new x y ≡ (not (is_pair s t x y) && old x y) = ap (λ (p : Pairs). p x y) is in (
      λ has.
          let parts = and_parts (not (is_pair s t x y)) (old x y) (sym there ∙ has) in
          (parts.1, λ here. both_ways (is_pair s t x y) (not-true (is_pair s t x y) parts.0) (and_from _ _ (eq-eqb x s here.0) (eq-eqb y t here.1))),
      λ both.
          ⊎_elim
          (λ (here : is_pair s t x y ≡ true).
          let parts = and_parts (eqb x s) (eqb y t) here in absurd (both.1 (eqb-true x s parts.0, eqb-true y t parts.1)))
          (λ (apart : is_pair s t x y ≡ false). there ∙ and_from _ _ (not_from_false (is_pair s t x y) apart) both.0)
          (cases_Bool (is_pair s t x y)),
    )

module _ (P : ℕ → ℕ → Type 0) where
  module _ (s : ℕ) (old : Pairs) where
    pub row_none : RowSwept P s 0 old old
    row_none x y = (λ has. (has, λ here low. absurd (omega (arith, low))), λ both. both.0)

    -- one place more: its pair has P, or does not stand
    pub row_kept : (k : ℕ) (mid : Pairs) → RowSwept P s k old mid → (Has mid s k → P s k) → RowSwept P s (k + 1) old mid
    row_kept k mid swept holds x y = (
      λ has. (
        ((swept x y).0 has).0,
        λ here low.
            ⊎_elim
            (λ (last : y ≡ k). subst (P s) (sym last) (holds (subst (λ v. Has mid s v) last (subst (λ v. Has mid v y) here has))))
            (λ (earlier : y ≢ k). ((swept x y).0 has).1 here (omega (arith, low, earlier)))
            (cases_eq y k),
      ),
      λ both. (swept x y).1 (both.0, λ here low. both.1 here (omega (arith, low))),
    )

    -- one place more: its pair has not P and is struck
    pub row_struck : (k : ℕ) (mid new : Pairs) → RowSwept P s k old mid → (P s k → ⊥) → new ≡ without_pair mid s k → RowSwept P s (k + 1) old new
    row_struck k mid new swept never is x y =
        let struck : Decides (new x y) (Has mid x y × ((x ≡ s) × (y ≡ k) → ⊥)) = struck_has mid new s k is x y in (
          λ has.
              let both = struck.0 has in (
                ((swept x y).0 both.0).0,
                λ here low.
                    ⊎_elim
                    (λ (last : y ≡ k). absurd (both.1 (here, last)))
                    (λ (earlier : y ≢ k). ((swept x y).0 both.0).1 here (omega (arith, low, earlier)))
                    (cases_eq y k),
              ),
          λ both.
              struck.1 (
                (swept x y).1 (both.0, λ here low. both.1 here (omega (arith, low))),
                λ here. never (subst (P s) here.1 (both.1 here.0 (omega (arith, here.1)))),
              ),
        )

  module _ (old : Pairs) where
    pub rows_none : RowsSwept P 0 old old
    rows_none x y = (λ has. (has, λ low. absurd (omega (arith, low))), λ both. both.0)

    -- one row more, of which n places were looked at; no pair of the set lies behind them
    pub rows_more : (k n : ℕ) (mid new : Pairs) → RowsSwept P k old mid → RowSwept P k n mid new → ((x y : ℕ) → Has mid x y → y < n) → RowsSwept P (k + 1) old new
    rows_more k n mid new swept row within x y = (
      λ has.
          let both = (row x y).0 has in (
            ((swept x y).0 both.0).0,
            λ low.
                ⊎_elim
                (λ (last : x ≡ k). subst (λ v. P v y) (sym last) (both.1 last (within x y both.0)))
                (λ (earlier : x ≢ k). ((swept x y).0 both.0).1 (omega (arith, low, earlier)))
                (cases_eq x k),
          ),
      λ both.
          (row x y).1 (
            (swept x y).1 (both.0, λ low. both.1 (omega (arith, low))),
            λ here low. subst (λ v. P v y) here (both.1 (omega (arith, here))),
          ),
    )

    -- all rows are done
    pub rows_all : (k : ℕ) (new : Pairs) → ((x y : ℕ) → Has old x y → x < k) → RowsSwept P k old new → Swept P old new
    rows_all k new within swept x y = (
      λ has. let both = (swept x y).0 has in (both.0, both.1 (within x y both.0)),
      λ both. (swept x y).1 (both.0, λ low. both.1),
    )

-- sweeping by what means the same
pub swept_like : (P Q : ℕ → ℕ → Type 0) (old new : Pairs) → ((s t : ℕ) → P s t → Q s t) → ((s t : ℕ) → Q s t → P s t) → Swept P old new → Swept Q old new
swept_like P Q old new forth back swept x y = (
  λ has. let both = (swept x y).0 has in (both.0, forth x y both.1),
  λ both. (swept x y).1 (both.0, back x y both.1),
)

-- a struck pair leaves fewer
pub strike_tells : (struck : Bool) (old mid new : Pairs) (s t : ℕ) → Tells struck old mid → s < 128 → t < 128 → Has mid s t → new ≡ without_pair mid s t → Tells true old new
strike_tells struck old mid new s t tells low low' has is =
    let gone : new s t ≡ false =
    ap (λ (p : Pairs). p s t) is ∙ and_left _ (mid s t) (not_from_true _ (and_from _ _ (eq-eqb s s refl) (eq-eqb t t refl))) in
    let fewer : pair_count new < pair_count mid =
    fewer_pairs new mid (λ x y there. ((struck_has mid new s t is x y).0 there).0) s t low low' gone has in
    earlier struck tells fewer
  where
    earlier : (v : Bool) → Tells v old mid → pair_count new < pair_count mid → pair_count new < pair_count old
    earlier true told fewer = omega (arith, told, fewer)
    earlier false told fewer = subst (λ (p : Pairs). pair_count new < pair_count p) told fewer

-- one part of a sweep after another
pub tells_both : (v w : Bool) (old mid new : Pairs) → Tells v old mid → Tells w mid new → Tells (v || w) old new
tells_both true true old mid new one two = omega (arith, one, two)
tells_both true false old mid new one two = subst (λ (p : Pairs). pair_count p < pair_count old) (sym two) one
tells_both false true old mid new one two = subst (λ (p : Pairs). pair_count new < pair_count p) one two
tells_both false false old mid new one two = two ∙ one
