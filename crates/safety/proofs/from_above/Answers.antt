-- `safety::from_above` meets its contract.
use Rattle.matrix.specs.Reading.{state_of}
use Rattle.rising.specs.Valid.{guessed_of}
use Rattle.telling.specs.Tells.{tells_then}
use Rattle.safety.specs.Tellings.{subject_few, path_room, owned_list, above_list, told_above}
use Rattle.safety.proofs.from_above.Goals as goal

pub put_destroys-j-requires : goal.put_destroys-j-requires
put_destroys-j-requires c = let q = c.requires in (path_room q.0, subject_few q.0 q.1)

pub returns-then-owns_then : goal.returns-then-owns_then
returns-then-owns_then c =
    let a = c.args in
    told_above a.v a.path.now (owned_list (state_of a.r.now.b.now) a.t.s a.t.x a.t.y a.v a.path.now c.owns_then.ensures c.if-owns_then.true) c.put_destroys-j.ensures c.leaks.ensures

pub again_needed-again-requires : goal.again_needed-again-requires
again_needed-again-requires c =
    let r = c.args.r.now in
    let q = c.requires.0.bit in
    (record { station = r.station; column = q.column }, guessed_of r.station r.valid r.size, q.row)

pub returns : goal.returns
returns c =
    let a = c.args in
    told_above a.v a.path.now (above_list (state_of a.r.now.b.now) a.t.s a.t.x a.t.y a.v a.path.now c.owns_then.ensures c.if-owns_then.false c.gone-absent.ensures c.again_needed-again.ensures) (tells_then c.put_destroys-j.ensures c.put_finish-k.ensures) c.leaks-2.ensures
