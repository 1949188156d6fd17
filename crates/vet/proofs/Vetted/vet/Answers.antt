use Rattle.std.proofs.Common.{refl, subst}
use Rattle.plan.proofs.Closings.{keeps_closing}
use Rattle.vet.specs.Findings.{Finds}
use Rattle.vet.proofs.Faults.{one_finding}
use Rattle.vet.proofs.Vetted.vet.Goals as goal

pub returns : goal.returns
returns g c =
    let m = g.P.Plan.meaning c.args.plan in
    record {
      same_plan = refl;
      finds = c.find_fault-finding.ensures;
      only = one_finding m;
      closes = λ sound. keeps_closing m (g.met.P.Plan.lawful c.args.plan) (subst (Finds m) sound c.find_fault-finding.ensures);
    }
