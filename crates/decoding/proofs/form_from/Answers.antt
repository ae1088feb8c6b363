-- `decoding::form_from` meets its contract.
use mathlib.Core.Path.{refl}
use borrow.Author.Tests.{eq-eqb, ne_eqb}
use Rattle.decoding.proofs.form_from.Goals as goal

pub returns-then-code-first : goal.returns-then-code-first
returns-then-code-first c = rw (eq-eqb c.args.code c.args.first c.if-code-first.true) refl

pub returns : goal.returns
returns c = rw (ne_eqb c.args.code c.args.first c.if-code-first.false) refl
