-- `columns::Cells::own` meets its contract.
use Rattle.std.proofs.Common.{arith, ℕ, ◌≡◌, ◌<◌, ◌+◌, ◌*◌, ◌∙◌, ap, get_or}
use Rattle.lanes.specs.Lanes.{row_place, row_bytes, lane_in}
use Rattle.lanes.specs.LaneLaws.{row_room, upper_byte}
use Rattle.columns.specs.Cells.{last_lane}
use Rattle.columns.specs.Loops.{cell_inside}
use Rattle.columns.proofs.Cells.own.Goals as goal
use Rattle.columns.proofs.Cells.own.Goals.{Start, After-place}

-- the cell lies in its row, and where the lane begins
inside : (g : _) (c : Start g) → 2 * last_lane g.W.Width.LANES c.args.s + 1 < row_bytes c.args.self.now.lanes.matrix
inside g c = cell_inside g.W.Width.one_or_two _ c.args.s c.args.self.now.celled c.requires

at : (g : _) (c : After-place g) → c.place.result ≡ row_place c.args.self.now.lanes.matrix c.args.s + 2 * last_lane g.W.Width.LANES c.args.s
at g c = c.place.ensures ∙ ap (λ (j : ℕ). row_place c.args.self.now.lanes.matrix c.args.s + 2 * j) c.last_lane.ensures

pub last_lane-requires : goal.last_lane-requires
last_lane-requires g c = omega (arith, c.args.self.now.celled.subjects, c.requires)

pub place-requires : goal.place-requires
place-requires g c = (c.requires, omega (arith, c.last_lane.ensures, inside g (goal.at.place-requires g c).Start))

pub lane-requires : goal.lane-requires
lane-requires g c =
    omega (arith, at g (goal.at.lane-requires g c).After-place, inside g (goal.at.lane-requires g c).Start, row_room _ c.args.self.now.lanes.matrix c.args.s c.args.self.now.lanes.laid c.requires)

pub returns : goal.returns
returns g c =
    let m = c.args.self.now.lanes in
    let e = at g (goal.at.returns g c).After-place in record {
      lane = c.lane.ensures.word ∙ ap (λ (i : ℕ). lane_in m.bytes.now i) e;
      upper = c.lane.ensures.low ∙ ap (λ (i : ℕ). get_or m.bytes.now (i + 1) 0) e ∙ upper_byte m.bytes.now m.matrix c.args.s _;
    }
