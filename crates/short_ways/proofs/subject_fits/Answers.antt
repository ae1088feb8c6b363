-- `short_ways::subject_fits` meets its contract.
use mathlib.Core.Path.{sym, ◌∙◌, ap}
use mathlib.Core.Bool.{Bool}
use Rattle.matrix.specs.Reading.{state_of}
use Rattle.short_ways.specs.Allowed.{subject_fits}
use Rattle.short_ways.proofs.subject_fits.Goals as goal

pub returns-then-on : goal.returns-then-on
returns-then-on c = let z = c.args in c.subject_exists.ensures ∙ sym (ap (λ (on : Bool). subject_fits (state_of z.b.now) z.y z.s z.o on) c.if-on.true)

pub returns : goal.returns
returns c = let z = c.args in c.has_bit.ensures ∙ sym (ap (λ (on : Bool). subject_fits (state_of z.b.now) z.y z.s z.o on) c.if-on.false)
