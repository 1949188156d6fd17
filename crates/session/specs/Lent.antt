-- The slices that are lent for a session.
use Rattle.std.specs.Prelude.{◌≡◌, ℕ, Bool, length}
use Rattle.session.specs.declared.room.Room.{Room}
use Rattle.session.specs.Running.{has_room}

-- they have room for an input of this length, beside so many places for calls
abbrev pub has_room_in : ℕ → ℕ → Room → Bool
has_room_in input calls room = has_room input (length room.commands.now) calls (length room.answers.now) (length room.lines.now)

-- the same slices are lent now as before, so that who lent them finds in them what is said of them here
pub record SameSlices (was became : Room) : Type 0 where
  pub same_lines : became.lines.ghost_name ≡ was.lines.ghost_name
  pub same_commands : became.commands.ghost_name ≡ was.commands.ghost_name
  pub same_answers : became.answers.ghost_name ≡ was.answers.ghost_name
