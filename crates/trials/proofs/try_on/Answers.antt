-- `trials::try_on` meets its contract: after copying the copy is the record.
use mathlib.Core.Path.{sym, ◌∙◌, ap, subst}
use Rattle.matrix.specs.FirstHeld.{first_on}
use Rattle.cells.specs.Station.{Cell}
use Rattle.states.specs.Needs.{Guessed}
use Rattle.trials.proofs.try_on.Goals as goal

pub copy_from_slice-requires : goal.copy_from_slice-requires
copy_from_slice-requires c = c.requires.3

pub first_on-requires : goal.first_on-requires
first_on-requires c =
    let a = c.args in
    let p = c.requires in
    let e = sym c.copy_from_slice.ensures.after in
    (subst (λ b. Guessed b a.f a.owners.now) e p.0, subst (λ b. Cell b a.f a.s a.o) e p.1, p.2)

pub returns-clause-first : goal.returns-clause-first
returns-clause-first c = let a = c.args in c.first_on.ensures.first ∙ ap (λ b. first_on b a.list.bytes.now a.s a.o a.right) c.copy_from_slice.ensures.after
