-- `rules::is_deletable` meets its contract: a delete is a case of the definition, and of every other act the bit is not asked.
use mathlib.Core.Path.{◌≡◌, refl, sym, ◌∙◌, ap, subst}
use mathlib.Core.Bool.{true}
use denote.Enum.Declared as Declared
use Rattle.matrix.specs.contracts.Act as acts
use Rattle.matrix.specs.declared.Act.{Act}
use Rattle.matrix.specs.declared.Act.TheVariants.{Transfer, Grant, Delete, CreateObject, DestroyObject, CreateSubject, DestroySubject}
use Rattle.matrix.specs.declared.Command.{Command}
use Rattle.matrix.specs.declared.Right.{Right}
use Rattle.matrix.specs.State.{State}
use Rattle.matrix.specs.Reading.{state_of}
use Rattle.matrix.specs.Tests.{deletable}
use Rattle.rules.specs.Needs.{ActIn}
use Rattle.rules.proofs.is_deletable.Goals as goal

-- an act that is no delete asks for no bit
not_asked : (S : State) (d : Command) (a : Act) → ((y : Right) → a ≡ Delete y → ⊥) → true ≡ deletable S d a
not_asked S d (Transfer y) h = refl
not_asked S d (Grant y) h = refl
not_asked S d (Delete y) h = absurd (h y refl)
not_asked S d CreateObject h = refl
not_asked S d DestroyObject h = refl
not_asked S d CreateSubject h = refl
not_asked S d DestroySubject h = refl

pub has_bit-requires : goal.has_bit-requires
has_bit-requires c =
    let q = c.requires in
    record { station = q.station; right = subst (ActIn c.args.f) c.in-Delete.is q.right; row = q.subject; column = q.object }

pub returns-in-Delete : goal.returns-in-Delete
returns-in-Delete c =
    let z = c.args in
    c.has_bit.ensures ∙ sym (ap (λ (a : Act). deletable (state_of z.b.now) z.c a) c.in-Delete.is)

pub returns-in_default : goal.returns-in_default
returns-in_default c = let z = c.args in not_asked (state_of z.b.now) z.c z.c.act c.in_default.not-Delete
