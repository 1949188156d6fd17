use Rattle.std.proofs.Common.{◌≡◌, ℕ, ◌+◌, ◌*◌, false, None, sym, ◌∙◌, subst, arith}
use Rattle.std.proofs.lemmas.Nat.{mul-le}
use Rattle.std.proofs.lemmas.Result.{err_from_is_err_and}
use Rattle.layout.specs.declared.refusal.FileRefusal.TheVariants.{Row as RowRefused}
use Rattle.layout.proofs.Asked.{given_refusal}
use Rattle.drawing.specs.Layout.{proper_at, state_rows_in}
use Rattle.drawing.specs.Opening.{StatesRead, Refused}
use Rattle.drawing.proofs.States.{states_none, states_more, row_refused}
use Rattle.drawing.proofs.drawing.open.DrawingFile.read_states.Goals as goal

pub loop-s-init : goal.loop-s-init
loop-s-init c = states_none c.args.self.now.bytes.now

pub read-requires : goal.read-requires
read-requires c =
    let file = c.args.self.now in
    let row = mul-le c.loop-s.s (2 + 4 * file.header.channels) 128 18 (omega arith) (omega arith) in
    record { near = omega (arith, row, file.read.state_rows_inside); few = file.read.few_channels }

pub returns-in_err-rows : goal.returns-in_err-rows
returns-in_err-rows c =
    let file = c.args.self.now in
    let b = file.bytes.now in
    let s = c.loop-s.s in
    let k = file.header.channels in
    let p = err_from_is_err_and c.from_residual.result c.from_residual.ensures.1 in
    let none : c.read.result ≡ None = c.in_err-rows.ensures.ok_part in
    let is = given_refusal c.read.result _ (RowRefused s) none c.in_err-rows.ensures.value in
    let improper : proper_at b (file.header.state_rows + s * (2 + 4 * k)) k ≡ false = rw none at c.read.ensures in
    let placed = subst (λ (at : ℕ). proper_at b (at + s * (2 + 4 * k)) k ≡ false) file.read.state_rows_read improper in
    rw (p.1, p.2)
    (subst (Refused b) (sym is)
    (row_refused b s file.read.passes (omega arith) c.loop-s.invariant.proper_rows
    (subst (λ (j : ℕ). proper_at b (state_rows_in b + s * (2 + 4 * j)) j ≡ false) file.read.channels_read placed)))

pub loop-s-preserved : goal.loop-s-preserved
loop-s-preserved c =
    let file = c.args.self.now in
    let row = rw c.in_ok-rows.ensures.ok_part at c.read.ensures in
    states_more file.bytes.now c.loop-s.s c.loop-s.rows c.in_ok-rows.field-0 c.loop-s.invariant (omega arith)
    (rw (file.read.state_rows_read, file.read.channels_read) at row)

pub returns : goal.returns
returns c =
    let file = c.args.self.now in
    let all : c.loop-s.s ≡ file.header.states = omega arith in
    subst (λ n. StatesRead file.bytes.now n c.loop-s.rows) (all ∙ file.read.states_read) c.loop-s.invariant
