-- `rules::may_transfer` meets its contract: each arm is a case of the definition.
use mathlib.Core.Path.{sym, ◌∙◌, ap}
use Rattle.matrix.specs.declared.Right.{Right}
use Rattle.matrix.specs.Reading.{state_of}
use Rattle.matrix.specs.declared.Act.TheVariants.{Transfer}
use Rattle.matrix.specs.Tests.{permitted}
use Rattle.states.specs.Reads.{basic_in}
use Rattle.rules.proofs.may_transfer.Goals as goal

pub has_bit-requires : goal.has_bit-requires
has_bit-requires c =
    let q = c.requires in
    record { station = q.0.station; right = basic_in c.args.f c.in-Basic.is q.1; row = q.0.initiator; column = q.0.object }

pub returns-in-Own : goal.returns-in-Own
returns-in-Own c = c.owns_object.ensures ∙ sym (ap (λ (a : Right). permitted (state_of c.args.b.now) c.args.c (Transfer a)) c.in-Own.is)

pub returns-in-Basic : goal.returns-in-Basic
returns-in-Basic c = c.has_bit.ensures ∙ sym (ap (λ (a : Right). permitted (state_of c.args.b.now) c.args.c (Transfer a)) c.in-Basic.is)
