-- `rules::is_permitted` meets its contract: each arm is a case of the definition.
use mathlib.Core.Path.{sym, ◌∙◌, ap, subst}
use Rattle.matrix.specs.declared.Act.{Act}
use Rattle.matrix.specs.Reading.{state_of}
use native.Mathlib.Omega.{arith}
use borrow.Author.Tests.{lt-ltb}
use Rattle.matrix.specs.Tests.{permitted}
use Rattle.rules.specs.Needs.{ActIn}
use Rattle.rules.proofs.is_permitted.Goals as goal

pub may_transfer-requires : goal.may_transfer-requires
may_transfer-requires c = (c.requires, subst (ActIn c.args.f) c.in-Transfer.is c.requires.right)

pub has_bit-requires : goal.has_bit-requires
has_bit-requires c =
    let q = c.requires in
    record { station = q.station; right = omega arith; row = q.initiator; column = lt-ltb _ _ q.subject }

pub returns-in-Transfer : goal.returns-in-Transfer
returns-in-Transfer c = c.may_transfer.ensures ∙ sym (ap (λ (a : Act). permitted (state_of c.args.b.now) c.args.c a) c.in-Transfer.is)

pub returns-in-Grant : goal.returns-in-Grant
returns-in-Grant c = c.owns_object.ensures ∙ sym (ap (λ (a : Act). permitted (state_of c.args.b.now) c.args.c a) c.in-Grant.is)

pub returns-in-Delete : goal.returns-in-Delete
returns-in-Delete c = c.may_delete.ensures ∙ sym (ap (λ (a : Act). permitted (state_of c.args.b.now) c.args.c a) c.in-Delete.is)

pub returns-in-DestroyObject : goal.returns-in-DestroyObject
returns-in-DestroyObject c = c.owns_object-in-DestroyObject.ensures ∙ sym (ap (λ (a : Act). permitted (state_of c.args.b.now) c.args.c a) c.in-DestroyObject.is)

pub returns-in-DestroySubject : goal.returns-in-DestroySubject
returns-in-DestroySubject c = c.has_bit.ensures ∙ sym (ap (λ (a : Act). permitted (state_of c.args.b.now) c.args.c a) c.in-DestroySubject.is)
