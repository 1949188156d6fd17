use Rattle.std.proofs.Common.{◌≡◌, ℕ, ◌+◌, Bool, sym, refl, ◌∙◌, subst, arith}
use Rattle.std.proofs.lemmas.Bool.{both_ways}
use Rattle.pairs.specs.Pairs.{Pairs, Has, kept_pairs}
use Rattle.pairs.specs.declared.table.PairTable.{PairTable}
use Rattle.pairs.proofs.Made.{kept_within}
use Rattle.largest.specs.Sweeping.{CoveredIn, RowSwept, Tells}
use Rattle.largest.proofs.Sweeping.{row_none, row_kept, row_struck, strike_tells}
use Rattle.largest.proofs.round.strike_row.Goals as goal
use Rattle.largest.proofs.round.strike_row.Goals.{then-stands+then-not-is_covered, else-stands, else-stands-via-then-stands+else-not-is_covered, else-stands-via-else-stands}

-- the table and the flag are these
moved : (P : ℕ → ℕ → Type 0) (s k : ℕ) (old : Pairs) (table table' : PairTable) (flag flag' : Bool) → table ≡ table' → flag ≡ flag'
    → RowSwept P s k old (kept_pairs table') × Tells flag' old (kept_pairs table') → RowSwept P s k old (kept_pairs table) × Tells flag old (kept_pairs table)
moved P s k old table table' flag flag' is is' both =
    subst (λ (t : PairTable). RowSwept P s k old (kept_pairs t) × Tells flag old (kept_pairs t)) (sym is)
    (subst (λ (v : Bool). RowSwept P s k old (kept_pairs table') × Tells v old (kept_pairs table')) (sym is') both)

pub loop-t-init : goal.loop-t-init
loop-t-init c = (row_none (CoveredIn c.args.next.now c.args.covered.now) c.args.s (kept_pairs c.args.pairs.now), refl)

pub loop-t-preserved : goal.loop-t-preserved
loop-t-preserved c =
    let P = CoveredIn c.args.next.now c.args.covered.now in
    let s = c.args.s in
    let t = c.loop-t.t in
    let old = kept_pairs c.args.pairs.now in
    let mid = kept_pairs c.loop-t.pairs in
    elim c.if-stands.branch [
      | then-stands+then-not-is_covered w ↦
          let has : Has mid s t = sym c.stands.ensures ∙ w.if-stands.true in
          moved P s (t + 1) old _ _ _ _ w.pairs-is w.struck-is (
            row_struck P s old t mid _ c.loop-t.invariant.0 (λ covered. both_ways w.is_covered.result w.if-not-is_covered.true (w.is_covered.ensures.1 covered)) w.strike.ensures,
            strike_tells c.loop-t.struck old mid _ s t c.loop-t.invariant.1 (kept_within c.loop-t.pairs s t has).0 c.loop-t-test.true has w.strike.ensures,
          )
      | else-stands w ↦
          moved P s (t + 1) old _ _ _ _ w.pairs-is w.struck-is (
            row_kept P s old t mid c.loop-t.invariant.0
                (λ has.
                elim w.else-stands.branch [
                  | else-stands-via-then-stands+else-not-is_covered w' ↦ w'.is_covered.ensures.0 w'.if-not-is_covered.false
                  | else-stands-via-else-stands w' ↦ absurd (both_ways (mid s t) (sym c.stands.ensures ∙ w'.if-stands.false) has)
                ]),
            c.loop-t.invariant.1,
          )
    ]

pub returns : goal.returns
returns c =
    let all : c.loop-t.t ≡ 128 = omega (arith, c.loop-t-test.false, c.loop-t.auto.t-end) in
    record {
      sweeps =
          subst (λ k. RowSwept (CoveredIn c.args.next.now c.args.covered.now) c.args.s k (kept_pairs c.args.pairs.now) (kept_pairs c.loop-t.pairs)) all c.loop-t.invariant.0;
      tells = c.loop-t.invariant.1;
    }
