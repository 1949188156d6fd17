use Rattle.std.proofs.Common.{arith}
use Rattle.join.proofs.Few.{steps_few}
use Rattle.join.specs.StepPairs.{pairs_length}
use Rattle.std.proofs.lemmas.Nat.{mul-le}
use Rattle.join.proofs.Joined.pair_step_count.Goals as goal

pub overflow_mul-result : goal.overflow_mul-result
overflow_mul-result g c =
    let first = steps_few _ (g.met.A.Plan.lawful c.args.self.now.first) c.args.x in
    let second = steps_few _ (g.met.B.Plan.lawful c.args.self.now.second) c.args.y in
    omega (arith, mul-le c.step_count.result c.step_count-2.result 128 128 (omega arith) (omega arith))

pub returns : goal.returns
returns g c = let long = pairs_length (g.B.Plan.meaning c.args.self.now.second).states ((g.A.Plan.meaning c.args.self.now.first).steps c.args.x) ((g.B.Plan.meaning c.args.self.now.second).steps c.args.y) in cc
