use Rattle.layout.proofs.LowestOf.{lowest_means}
use Rattle.layout.proofs.lowest_is_lowest.Goals as goal

pub returns : goal.returns
returns c = lowest_means
