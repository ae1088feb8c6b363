-- `rules::name_free` meets its contract: each arm is a case of the definition.
use mathlib.Core.Path.{sym, ◌∙◌, ap}
use mathlib.Core.Bool.{not}
use Rattle.matrix.specs.declared.Act.{Act}
use Rattle.matrix.specs.Reading.{state_of}
use Rattle.matrix.specs.Tests.{free}
use Rattle.rules.proofs.name_free.Goals as goal

pub returns-in-CreateObject : goal.returns-in-CreateObject
returns-in-CreateObject c = ap not c.name_exists.ensures ∙ sym (ap (λ (a : Act). free (state_of c.args.b.now) c.args.c a) c.in-CreateObject.is)

pub returns-in-CreateSubject : goal.returns-in-CreateSubject
returns-in-CreateSubject c = ap not c.subject_exists.ensures ∙ sym (ap (λ (a : Act). free (state_of c.args.b.now) c.args.c a) c.in-CreateSubject.is)
