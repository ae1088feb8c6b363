-- `rules::may_delete` meets its contract: each arm is a case of the definition.
use mathlib.Core.Path.{sym, ◌∙◌, ap}
use Rattle.matrix.specs.declared.Right.{Right}
use Rattle.matrix.specs.Reading.{state_of}
use native.Mathlib.Omega.{arith}
use borrow.Author.Tests.{lt-ltb}
use Rattle.matrix.specs.declared.Act.TheVariants.{Delete}
use Rattle.matrix.specs.Tests.{permitted}
use Rattle.laws.specs.Tests.{or_stop, or_next}
use Rattle.rules.proofs.may_delete.Goals as goal

pub returns-then-owns_object : goal.returns-then-owns_object
returns-then-owns_object c =
    or_stop _ c.if-owns_object.true c.owns_object.ensures
    ∙ sym (ap (λ (y : Right). permitted (state_of c.args.b.now) c.args.c (Delete y)) c.in-Basic.is)

pub has_bit-requires : goal.has_bit-requires
has_bit-requires c =
    let q = c.requires in
    record { station = q.station; right = omega arith; row = q.initiator; column = lt-ltb _ _ q.subject }

pub returns-else-owns_object : goal.returns-else-owns_object
returns-else-owns_object c =
    or_next c.if-owns_object.false c.owns_object.ensures c.has_bit.ensures
    ∙ sym (ap (λ (y : Right). permitted (state_of c.args.b.now) c.args.c (Delete y)) c.in-Basic.is)
