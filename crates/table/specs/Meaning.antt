-- What a table means.
use Rattle.plan.specs.Model.{Model}
use Rattle.table.specs.declared.table.Table.{Table}
use Rattle.table.specs.Rows.{stored_plan}

abbrev pub table_meaning : Table → Model
table_meaning t = stored_plan t.states t.start t.rows
