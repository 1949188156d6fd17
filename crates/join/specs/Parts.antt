-- Which states of its parts a state of a joined plan stands for.
use Rattle.std.specs.Prelude.{ℕ, ◌*◌, ◌/◌, ◌%◌, cond, ◌&&◌, Some, None, Option, nat_lt}
use Rattle.plan.specs.Model.{Model}
use Rattle.join.specs.Joining.{fits_join}

-- none where there is no such state, or where the plans are past the limits
abbrev pub pair_of : Model → Model → ℕ → Option (ℕ × ℕ)
pair_of a b s = cond (fits_join a b && nat_lt s (a.states * b.states)) (Some (s / b.states, s % b.states)) None
