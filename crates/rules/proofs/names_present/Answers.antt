-- `rules::names_present` meets its contract: each arm is a case of the definition, and the last arm has the acts that are left: a transfer, a
-- grant and a delete.
use mathlib.Core.Path.{◌≡◌, refl, sym, ◌∙◌, ap}
use mathlib.Core.Bool.{◌&&◌}
use denote.Enum.Declared as Declared
use Rattle.matrix.specs.contracts.Act as acts
use Rattle.matrix.specs.declared.Act.{Act}
use Rattle.matrix.specs.declared.Act.TheVariants.{Transfer, Grant, Delete, CreateObject, DestroyObject, CreateSubject, DestroySubject}
use Rattle.matrix.specs.declared.Command.{Command}
use Rattle.matrix.specs.State.{State, exists, exists_name}
use Rattle.matrix.specs.Reading.{state_of}
use Rattle.matrix.specs.Tests.{present}
use Rattle.rules.proofs.names_present.Goals as goal

-- an act that is none of the four that create or destroy needs both names
both_needed : (S : State) (d : Command) (a : Act) → (a ≡ CreateObject → ⊥) → (a ≡ DestroyObject → ⊥) → (a ≡ CreateSubject → ⊥)
    → (a ≡ DestroySubject → ⊥) → (exists S d.s && exists_name S d.o) ≡ present S d a
both_needed S d (Transfer y) co ob cs ds = refl
both_needed S d (Grant y) co ob cs ds = refl
both_needed S d (Delete y) co ob cs ds = refl
both_needed S d CreateObject co ob cs ds = absurd (co refl)
both_needed S d DestroyObject co ob cs ds = absurd (ob refl)
both_needed S d CreateSubject co ob cs ds = absurd (cs refl)
both_needed S d DestroySubject co ob cs ds = absurd (ds refl)

pub returns-in-DestroyObject : goal.returns-in-DestroyObject
returns-in-DestroyObject c = c.exists_by.ensures ∙ sym (ap (λ (a : Act). present (state_of c.args.b.now) c.args.c a) c.in-DestroyObject.is)

pub returns-in-DestroySubject : goal.returns-in-DestroySubject
returns-in-DestroySubject c = c.subject_exists.ensures ∙ sym (ap (λ (a : Act). present (state_of c.args.b.now) c.args.c a) c.in-DestroySubject.is)

pub returns-in_default : goal.returns-in_default
returns-in_default c =
    let d = c.in_default in
    c.both_exist.ensures
    ∙ both_needed (state_of c.args.b.now) c.args.c c.args.c.act d.not-CreateObject d.not-DestroyObject d.not-CreateSubject d.not-DestroySubject
