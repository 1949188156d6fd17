-- A table has just the pairs with a property, where its places say so and the property holds of nothing beside them.
use Rattle.std.proofs.Common.{ℕ, ◌<◌, Decides}
use Rattle.pairs.specs.Pairs.{kept_pairs}
use Rattle.pairs.specs.declared.table.PairTable.{PairTable}
use Rattle.pairs.proofs.Made.{kept_within}
use Rattle.closings.specs.Tables.{Tabulates}

pub tabulated : (table : PairTable) (P : ℕ → ℕ → Type 0) → ((s x : ℕ) → P s x → (s < 128) × (x < 128))
    → ((s x : ℕ) → s < 128 → x < 128 → Decides (kept_pairs table s x) (P s x)) → Tabulates P (kept_pairs table)
tabulated table P within each s x = (
  λ has. let low = kept_within table s x has in (each s x low.0 low.1).0 has,
  λ holds. let low = within s x holds in (each s x low.0 low.1).1 holds,
)
