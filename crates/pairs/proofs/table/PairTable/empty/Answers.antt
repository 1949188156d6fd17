use mathlib.Core.Path.{fun_ext}
use Rattle.pairs.proofs.Tables.{empty_keeps}
use Rattle.pairs.proofs.table.PairTable.empty.Goals as goal

pub returns : goal.returns
returns c = fun_ext (λ x. fun_ext (λ y. empty_keeps x y))
