use Rattle.std.proofs.Common.{◌+◌, ◌≤◌, length, sym, subst, arith, rules}
use Rattle.pairs.specs.Pairs.{kept_pairs}
use Rattle.pairs.specs.Listing.{partners_below}
use Rattle.pairs.specs.Placing.{Placed}
use Rattle.pairs.proofs.Rows.{row_none, row_room, row_with, row_without}
use Rattle.pairs.proofs.table.PairTable.write_partners.Goals as goal
use Rattle.pairs.proofs.table.PairTable.write_partners.Goals.{then-stands, else-stands}

-- a row that is to be written has room
room : (c : goal.Then-stands) → c.loop-second.at + 2 ≤ length c.loop-second.buffer
room c =
    omega (
      arith,
      c.loop-second.auto.buffer,
      row_room (kept_pairs c.args.self.now) c.args.buffer.now c.args.first c.args.from c.loop-second.second c.loop-second.at
          c.loop-second.buffer c.requires.room c.loop-second.invariant (omega arith) c.if-stands.ensures,
    )

pub loop-second-init : goal.loop-second-init
loop-second-init c = row_none (kept_pairs c.args.self.now) c.args.buffer.now c.args.first c.args.from

pub bounds-buffer-at : goal.bounds-buffer-at
bounds-buffer-at c = omega (arith, room c)

pub overflow_add-buffer : goal.overflow_add-buffer
overflow_add-buffer c = let h = room c in search rules

pub bounds-buffer-at-then-stands : goal.bounds-buffer-at-then-stands
bounds-buffer-at-then-stands c = let h = room c in search rules

pub overflow_add-at : goal.overflow_add-at
overflow_add-at c = let h = room c in search rules

pub loop-second-preserved : goal.loop-second-preserved
loop-second-preserved c =
    let pairs = kept_pairs c.args.self.now in
    let before = c.args.buffer.now in
    let s = c.args.first in
    let k = c.loop-second.second in
    let rows = partners_below pairs s (k + 1) in
    elim c.if-stands.branch [
      | then-stands w ↦
          subst (λ bs. Placed rows before bs c.args.from c.if-stands.at) (sym w.buffer-is)
          (subst (Placed rows before _ c.args.from) (sym w.at-is)
          (row_with pairs before s c.args.from k c.loop-second.at c.loop-second.buffer c.requires.room c.loop-second.invariant (omega arith) c.loop-second.auto.buffer w.if-stands.ensures))
      | else-stands w ↦
          subst (λ bs. Placed rows before bs c.args.from c.if-stands.at) (sym w.buffer-is)
          (subst (Placed rows before _ c.args.from) (sym w.at-is)
          (row_without pairs before s c.args.from k c.loop-second.at c.loop-second.buffer c.requires.room c.loop-second.invariant w.if-stands.ensures))
    ]
