-- `commands::command_on` meets its contract.
use Rattle.std.proofs.lemmas.Result.{err_from_is_err_and}
use Rattle.cells.specs.Station.{right_shape}
use Rattle.states.specs.Needs.{Guessed, guessed_at}
use Rattle.opening.specs.Opened.{station_long}
use Rattle.short_ways.specs.Ready.{DecodedTo, decoded_to, refused_by}
use Rattle.short_ways.specs.Outcomes.{answered_refused, answered_decoded, command_in}
use Rattle.commands.proofs.command_on.Goals as goal
use Rattle.commands.proofs.command_on.Goals.{After-shape-f, In_ok-decoded}

pub shape-f-requires : goal.shape-f-requires
shape-f-requires c = station_long c.requires.station

-- the record, with the shape that was opened
opened : (c : After-shape-f) → Guessed c.args.b.now c.shape-f.result c.args.owners.now
opened c = guessed_at c.requires c.shape-f.ensures

pub decode-requires : goal.decode-requires
decode-requires c = right_shape (opened c).station

pub returns-in_err-decoded-clause-answer : goal.returns-in_err-decoded-clause-answer
returns-in_err-decoded-clause-answer c =
    let p = err_from_is_err_and c.from_residual.result c.from_residual.ensures.1 in
    let g = opened (goal.at.returns-in_err-decoded-clause-answer c).After-shape-f in
    rw (p.1, p.2) (answered_refused _ _ g.station _ (refused_by _ _ c.decode.ensures c.in_err-decoded.was))

decoded : (c : In_ok-decoded) → DecodedTo c.shape-f.result c.args.c c.in_ok-decoded.decoded.command c.in_ok-decoded.decoded.kind
decoded c = decoded_to _ _ c.decode.ensures c.in_ok-decoded.was

pub carry_out-requires : goal.carry_out-requires
carry_out-requires c =
    let g = opened (goal.at.carry_out-requires c).After-shape-f in
    let w = decoded (goal.at.carry_out-requires c).In_ok-decoded in
    (command_in _ _ g.station _ w, w.kind_needed, g)

pub returns-clause-answer : goal.returns-clause-answer
returns-clause-answer c =
    let g = opened (goal.at.returns-clause-answer c).After-shape-f in
    answered_decoded _ _ g.station _ (decoded (goal.at.returns-clause-answer c).In_ok-decoded) c.carry_out.ensures.answer
