use Rattle.std.proofs.Common.{◌≡◌, Bool, true, false, cond, ◌&&◌, Result, Ok, Err, is_ok, refl, ap, ◌∙◌}
use Rattle.std.specs.Bool.{⊤}
use Rattle.join.specs.declared.JoinRefusal.{JoinRefusal}
use Rattle.join.specs.Joining.{states_fit, channels_fit}
use Rattle.join.proofs.Joined.fits.Goals as goal

-- the limits are kept just where none is refused
kept_by : (p q : Bool) (x y : JoinRefusal) → is_ok (let asked : Result ⊤ JoinRefusal = cond p (cond q (Ok tt) (Err x)) (Err y) in asked) ≡ (p && q)
kept_by true true x y = refl
kept_by true false x y = refl
kept_by false q x y = refl

pub returns : goal.returns
returns g c =
    let a = g.A.Plan.meaning c.args.self.now.first in
    let b = g.B.Plan.meaning c.args.self.now.second in
    c.is_ok.ensures.value ∙ ap is_ok c.check_limits.ensures ∙ kept_by (states_fit a b) (channels_fit a b) _ _
