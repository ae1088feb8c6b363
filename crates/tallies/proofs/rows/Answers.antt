-- `tallies::rows` meets its contract.
use native.Mathlib.Omega.{arith}
use Rattle.lanes.specs.LaneLaws.{row_room}
use Rattle.tallies.specs.Halves.{Room, halves_none, halves_room, halves_whole}
use Rattle.tallies.proofs.rows.Goals as goal
use Rattle.tallies.proofs.rows.Goals.{In-loop-r}

room : (c : In-loop-r) → Room c.loop-r.counts
room c = halves_room _ _ _ _ c.loop-r.invariant c.requires.0 c.loop-r-test.true

pub loop-r-init : goal.loop-r-init
loop-r-init c = halves_none _

pub join-requires : goal.join-requires
join-requires c =
    let m = c.args.m in
    (omega (arith, c.place.ensures, c.requires.1, row_room _ m.matrix c.loop-r.r m.laid c.loop-r-test.true), room (goal.at.join-requires c).In-loop-r)

pub loop-r-preserved : goal.loop-r-preserved
loop-r-preserved c =
    halves_whole _ _ c.join.ensures.bytes _ _ _ _ _ _ c.place.ensures c.loop-r.invariant (room (goal.at.loop-r-preserved c).In-loop-r) c.join.ensures.joined
