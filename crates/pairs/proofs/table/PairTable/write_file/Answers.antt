use Rattle.std.proofs.Common.{arith}
use Rattle.pairs.specs.Pairs.{kept_pairs}
use Rattle.pairs.proofs.Listed.{count_length}
use Rattle.pairs.proofs.Reading.{reads_back, kept_small}
use Rattle.pairs.proofs.Wholes.{not_written, written}
use Rattle.pairs.proofs.table.PairTable.write_file.Goals as goal

pub overflow_mul-needed : goal.overflow_mul-needed
overflow_mul-needed c = record { fits = omega (arith, c.count-count.ensures.count, count_length (kept_pairs c.args.self.now)) }

pub overflow_add-needed : goal.overflow_add-needed
overflow_add-needed c = record { fits = omega (arith, c.count-count.ensures.count, count_length (kept_pairs c.args.self.now)) }

pub returns-then-buffer-needed : goal.returns-then-buffer-needed
returns-then-buffer-needed c =
    record {
      written = not_written (kept_pairs c.args.self.now) c.args.buffer.now c.count-count.result c.count-count.ensures.count (omega arith);
      back = reads_back (kept_pairs c.args.self.now) (kept_small c.args.self.now);
    }

pub write_header-requires : goal.write_header-requires
write_header-requires c = record { room = omega arith; word = omega (arith, c.count-count.ensures.count, count_length (kept_pairs c.args.self.now)) }

pub returns : goal.returns
returns c =
    record {
      written =
          written (kept_pairs c.args.self.now) c.args.buffer.now c.write_header.new.buffer c.write_rows.new.buffer c.count-count.result c.write_rows.result
          c.count-count.ensures.count (omega arith) c.write_header.ensures c.write_rows.ensures;
      back = reads_back (kept_pairs c.args.self.now) (kept_small c.args.self.now);
    }
