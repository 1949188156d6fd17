use Rattle.std.proofs.Common.{◌≡◌, ◌+◌, ◌*◌, Bool, true, false, cond, Result, Ok, Err, refl}
use Rattle.std.specs.Bool.{⊤}
use Rattle.std.proofs.lemmas.Bool.{leb-true}
use Rattle.join.specs.declared.JoinRefusal.{JoinRefusal}
use Rattle.join.specs.Joining.{states_fit, channels_fit}
use Rattle.join.specs.Sides.{joined_right}
use Rattle.join.proofs.Joined.join.Goals as goal

-- where nothing is refused, both limits are kept
both_kept : (p q : Bool) (x y : JoinRefusal) (r : Result ⊤ JoinRefusal) → r ≡ Ok tt → r ≡ cond p (cond q (Ok tt) (Err x)) (Err y) → (p ≡ true) × (q ≡ true)
both_kept true true x y r ok e = (refl, refl)
both_kept true false x y r ok e = absurd cc
both_kept false q x y r ok e = absurd cc

pub returns-clause-meets : goal.returns-clause-meets
returns-clause-meets g c =
    let a = g.A.Plan.meaning c.args.first in
    let b = g.B.Plan.meaning c.args.second in
    let kept = both_kept (states_fit a b) (channels_fit a b) _ _ _ c.in_default.is c.check_limits.ensures in
    (joined_right a b (g.met.B.Plan.lawful c.args.second)
    (leb-true (a.states * b.states) 128 kept.0) (leb-true (a.channels + b.channels) 4 kept.1)).stands
