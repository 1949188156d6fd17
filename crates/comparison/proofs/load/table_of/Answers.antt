use Rattle.std.proofs.Common.{◌≡◌, ◌<◌, ap, ◌∙◌, arith}
use Rattle.pairs.specs.PairFile.{count_in, rows_up_to}
use Rattle.comparison.proofs.Loads.{fill_more}
use Rattle.comparison.proofs.load.table_of.Goals as goal

pub loop-i-preserved : goal.loop-i-preserved
loop-i-preserved c =
    let b = c.args.file.now.bytes.now in
    let low : c.loop-i.i < count_in b = omega (arith, c.count-i-end.ensures, c.loop-i-test.true) in
    fill_more b c.loop-i.i _ _ _ low c.row-s.ensures (c.requires c.loop-i.i low) c.loop-i.invariant c.put.ensures

pub returns : goal.returns
returns c =
    let all : c.loop-i.i ≡ count_in c.args.file.now.bytes.now = omega (arith, c.count-i-end.ensures, c.loop-i-test.false) in
    c.loop-i.invariant ∙ ap (rows_up_to c.args.file.now.bytes.now) all
