use Rattle.std.proofs.Common.{ltb, eqb, ◌&&◌, rules, tests}
use Rattle.std.proofs.lemmas.Bool.Decides.{Decides-eqb, Decides-ltb, Decides-and, Decides-at, Decides-like}
use Rattle.walk.proofs.Sets.{made}
use Rattle.walk.proofs.from.only.Goals as goal

pub returns : goal.returns
returns c = λ u.
    let s = c.args.state in
    Decides-like _ (λ h. (h.1, h.0)) (λ h. (h.1, h.0))
    (Decides-at _ (ltb u 128 && eqb u s) (made _ _ (λ k. eqb k s) (λ k yes q called. search (rules, tests)) c.from_fn.result 128 c.from_fn.ensures.items u)
    (Decides-and _ _ (Decides-ltb u 128) (Decides-eqb u s)))
