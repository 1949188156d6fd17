use Rattle.std.proofs.Common.{eqb, sym, ap, ◌∙◌}
use Rattle.drawing.proofs.States.{proper_is}
use Rattle.drawing.proofs.state.State.read.Goals as goal

pub returns-then-mark-all_zero : goal.returns-then-mark-all_zero
returns-then-mark-all_zero c =
    let is = proper_is c.args.bytes.now c.args.at c.args.channels _ _ _ c.word-mark.ensures c.read_codes-codes.ensures c.all_zero.ensures in
    record {
      is_proper = sym is ∙ c.if-mark-all_zero.true;
      mark_read = ap (λ m. eqb m 1) c.word-mark.ensures;
      codes_read = c.read_codes-codes.ensures;
    }

pub returns-else-mark-all_zero : goal.returns-else-mark-all_zero
returns-else-mark-all_zero c =
    let is = proper_is c.args.bytes.now c.args.at c.args.channels _ _ _ c.word-mark.ensures c.read_codes-codes.ensures c.all_zero.ensures in
    sym is ∙ c.if-mark-all_zero.false
