-- What a joined plan means, by what its parts mean.
use Rattle.plan.specs.Model.{Model}
use Rattle.join.specs.declared.Joined.{Joined}
use Rattle.join.specs.Joining.{joined}

abbrev pub joined_meaning : {A B : Type 0} → (A → Model) → (B → Model) → Joined A B → Model
joined_meaning first-meaning second-meaning both = joined (first-meaning both.first) (second-meaning both.second)
