-- What a drawing means.
use Rattle.plan.specs.Model.{Model}
use Rattle.drawing.specs.declared.drawing.Drawing.{Drawing}
use Rattle.drawing.specs.Stored.{stored_plan}

abbrev pub drawing_meaning : Drawing → Model
drawing_meaning d = stored_plan d.states d.start d.channels d.rows d.steps
