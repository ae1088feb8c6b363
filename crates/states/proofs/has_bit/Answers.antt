-- `states::has_bit` meets its contract: the bit of the right's code in the cell is the state's bit.
use Prim.Native.Nat.{ℕ, ◌<◌}
use native.Mathlib.Omega.{arith}
use mathlib.Core.Path.{sym, ◌∙◌, ap₂, subst}
use Rattle.matrix.specs.Bytes.{bit}
use Rattle.matrix.specs.Shape.{columns}
use Rattle.matrix.specs.Reading.{cell_at}
use Rattle.codec.specs.Columns.{named_below}
use Rattle.cells.specs.Station.{right_shape}
use Rattle.states.specs.Reads.{code_in, code_small, read_bit}
use Rattle.states.proofs.has_bit.Goals as goal

pub code_of-j-requires : goal.code_of-j-requires
code_of-j-requires c = code_small c.args.f (right_shape c.requires.station) c.args.y c.requires.right

pub has-requires : goal.has-requires
has-requires c =
    let a = c.args in
    let q = c.requires in (
      record { station = q.station; row = q.row; column = subst (λ (m : ℕ). m < columns a.f) (sym c.column_of-c.ensures) (named_below a.f.n a.f.p a.x q.column) },
      omega (arith, c.code_of-j.ensures, code_in a.f (right_shape q.station) a.y q.right),
    )

pub returns : goal.returns
returns c =
    let a = c.args in
    let q = c.requires in
    c.has.ensures
    ∙ ap₂ (λ (j m : ℕ). bit j (cell_at a.b.now a.w m)) c.code_of-j.ensures c.column_of-c.ensures
    ∙ sym (read_bit a.b.now a.f q.station a.y a.w a.x q.right q.row q.column)
