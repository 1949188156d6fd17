use Rattle.std.proofs.Common.{◌≡◌, ℕ, ◌<◌, ◌≤◌, false, ◌&&◌, get_or, replicate, sym, ⊎_elim, rules, tests, arith}
use Rattle.std.proofs.lemmas.Bool.{both_ways, cases_lt, and_right}
use Rattle.std.proofs.lemmas.List.{get_or-replicate, get_or_past, length-replicate}
use Rattle.plan.specs.Runs.{Marked}
use Rattle.walk.proofs.Sets.{made, all_below}
use Rattle.closings.proofs.Nexts.{next_is}
use Rattle.closings.proofs.next.closings_after.Goals as goal

none_at : (t : ℕ) → get_or (replicate 128 false) t false ≡ false
none_at t =
    ⊎_elim
    (λ (low : t < 128). get_or-replicate 128 t false false low)
    (λ (high : 128 ≤ t). get_or_past (replicate 128 false) t false (rw length-replicate high))
    (cases_lt t 128)

pub returns-then-not-marked : goal.returns-then-not-marked
returns-then-not-marked g c = λ t. (
  λ has. absurd (both_ways (get_or (replicate 128 false) t false) (none_at t) has),
  λ next. absurd (both_ways _ (sym c.if-not-marked.ensures) next.0),
)

pub returns : goal.returns
returns g c = λ t.
    let m = g.P.Plan.meaning c.args.plan.now in
    let laws = g.met.P.Plan.lawful c.args.plan.now in
    let led = c.led_from-led.result in
    let marked : Marked m c.args.state = sym c.if-not-marked.ensures in
    let says : get_or c.from_fn.result t false ≡ (get_or led t false && m.mark t) =
    all_below (λ k. get_or led k false && m.mark k) 128
    (λ k past. and_right (get_or led k false) (m.mark k) (laws.unmarked_past k (omega (arith, laws.few)))) _
    (made _ _ (λ k. get_or led k false && m.mark k) (λ k yes q called. search (rules, tests)) c.from_fn.result 128 c.from_fn.ensures.items) t in
    let next = next_is m c.args.state t led (get_or c.from_fn.result t false) c.led_from-led.ensures says in
    (λ has. (marked, next.0 has), λ follows. next.1 follows.1)
