use Rattle.std.proofs.Common.{◌≡◌, arith}
use Rattle.pairs.specs.Pairs.{kept_pairs}
use Rattle.pairs.proofs.Rows.{rows_none, rows_room, rows_more, rows_all}
use Rattle.pairs.proofs.table.PairTable.write_rows.Goals as goal

pub loop-first-init : goal.loop-first-init
loop-first-init c = rows_none (kept_pairs c.args.self.now) c.args.buffer.now

pub write_partners-at-requires : goal.write_partners-at-requires
write_partners-at-requires c = record {
  is_state = omega arith;
  room = omega (arith, c.loop-first.auto.buffer, rows_room (kept_pairs c.args.self.now) c.args.buffer.now c.loop-first.first c.loop-first.at c.loop-first.buffer c.requires c.loop-first.invariant (omega arith));
}

pub loop-first-preserved : goal.loop-first-preserved
loop-first-preserved c =
    rows_more (kept_pairs c.args.self.now) c.args.buffer.now c.loop-first.first c.loop-first.at c.loop-first.buffer c.requires c.loop-first.invariant
    c.write_partners-at.new.buffer c.write_partners-at.result c.write_partners-at.ensures

pub returns : goal.returns
returns c =
    let all : c.loop-first.first ≡ 128 = omega (arith, c.loop-first-test.false, c.loop-first.auto.first-end) in
    rows_all (kept_pairs c.args.self.now) c.args.buffer.now c.loop-first.first c.loop-first.at c.loop-first.buffer c.requires c.loop-first.invariant all
