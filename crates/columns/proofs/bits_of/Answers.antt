-- `columns::bits_of` meets its contract.
use Rattle.std.proofs.Common.{arith, ℕ, bit_or, get_or}
use Rattle.std.proofs.Math.Path.{ap₂}
use Rattle.columns.specs.Cells.{bits_in, lanes_most, first_last}
use Rattle.columns.proofs.bits_of.Goals as goal

pub offset_bounds-seen-lanes_of : goal.offset_bounds-seen-lanes_of
offset_bounds-seen-lanes_of g c = record { fits = omega (arith, c.lanes_of.ensures, lanes_most g.W.Width.one_or_two c.args.c) }

pub bounds-seen-lanes_of : goal.bounds-seen-lanes_of
bounds-seen-lanes_of g c = omega (arith, c.lanes_of.ensures, first_last g.W.Width.one_or_two c.args.c)

pub returns : goal.returns
unfolding bits_in
returns g c =
    ap₂ (λ (i j : ℕ). bit_or (get_or c.args.seen.now i 0) (get_or c.args.seen.now j 0)) c.lanes_of.ensures c.last_lane.ensures
