-- A sum that saturates is past the end of every slice, and so is the true sum.
use Rattle.std.proofs.Common.{◌≡◌, ◌+◌, ◌^◌, ◌<◌, ◌≤◌, length, get_or, sym, ap, ◌∙◌, ⊎_elim, arith}
use Rattle.std.proofs.lemmas.List.{get_or_past}
use Rattle.std.proofs.lemmas.Bool.{cases_lt}
use Rattle.layout.proofs.byte_after.Goals as goal

pub returns : goal.returns
returns c =
    let b = c.args.bytes.now in
    let at = c.saturating_add.result in
    let sum = c.args.at + c.args.by in
    let same : get_or b at 0 ≡ get_or b sum 0 =
    ⊎_elim
    (λ (small : sum < 2 ^ 64). let e : at ≡ sum = omega arith in ap (λ i. get_or b i 0) e)
    (λ (large : 2 ^ 64 ≤ sum).
    let past : length b ≤ at = omega arith in
    let past' : length b ≤ sum = omega arith in
    get_or_past b at 0 past ∙ sym (get_or_past b sum 0 past'))
    (cases_lt sum (2 ^ 64)) in
    c.byte.ensures ∙ same
