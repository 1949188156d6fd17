use Rattle.std.proofs.Common.{sym, arith}
use Rattle.std.proofs.lemmas.List.{get_or_past}
use Rattle.std.proofs.lemmas.Nat.{mul-le}
use Rattle.join.specs.StepPairs.{step_taken}
use Rattle.join.proofs.Joined.pair_step.Goals as goal

pub returns-then-i-pair_step_count : goal.returns-then-i-pair_step_count
returns-then-i-pair_step_count g c = sym (get_or_past _ c.args.i 0 (omega arith))

-- there is a step i, so the second has steps, and both lead to states
pub nonzero_div-i : goal.nonzero_div-i
nonzero_div-i g c =
    let first = g.met.A.Plan.lawful c.args.self.now.first in
    let second = g.met.B.Plan.lawful c.args.self.now.second in
    (step_taken _ _ first second c.args.x c.args.y c.step_count-inner.result c.args.i c.step_count-inner.ensures (omega arith)).some

pub nonzero_rem-i : goal.nonzero_rem-i
nonzero_rem-i g c =
    let first = g.met.A.Plan.lawful c.args.self.now.first in
    let second = g.met.B.Plan.lawful c.args.self.now.second in
    (step_taken _ _ first second c.args.x c.args.y c.step_count-inner.result c.args.i c.step_count-inner.ensures (omega arith)).some

pub overflow_mul-result : goal.overflow_mul-result
overflow_mul-result g c =
    let first = g.met.A.Plan.lawful c.args.self.now.first in
    let second = g.met.B.Plan.lawful c.args.self.now.second in
    let taken = step_taken _ _ first second c.args.x c.args.y c.step_count-inner.result c.args.i c.step_count-inner.ensures (omega arith) in
    omega (arith, mul-le c.step.result c.states.result 128 128 (omega arith) (omega arith))

pub overflow_add-result : goal.overflow_add-result
overflow_add-result g c =
    let first = g.met.A.Plan.lawful c.args.self.now.first in
    let second = g.met.B.Plan.lawful c.args.self.now.second in
    let taken = step_taken _ _ first second c.args.x c.args.y c.step_count-inner.result c.args.i c.step_count-inner.ensures (omega arith) in
    omega (arith, mul-le c.step.result c.states.result 128 128 (omega arith) (omega arith))

pub returns : goal.returns
returns g c =
    let first = g.met.A.Plan.lawful c.args.self.now.first in
    let second = g.met.B.Plan.lawful c.args.self.now.second in
    let taken = step_taken _ _ first second c.args.x c.args.y c.step_count-inner.result c.args.i c.step_count-inner.ensures (omega arith) in
    cc
