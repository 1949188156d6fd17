use Rattle.pairs.proofs.Files.{order_refused}
use Rattle.pairs.proofs.file.PairFile.open.Goals as goal

pub returns-in-Some : goal.returns-in-Some
returns-in-Some c =
    let same = c.in_ok-file.ensures.bytes_same in
    order_refused c.args.bytes.now c.in-Some.row c.in_ok-file.ensures.frame_passes (rw same at c.in-Some.ensures)
