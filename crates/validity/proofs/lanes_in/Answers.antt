-- `validity::lanes_in` meets its contract.
use Rattle.std.proofs.Common.{refl}
use Rattle.columns.specs.Cells.{lanes_of}
use Rattle.validity.specs.Header.{lanes_laid}
use Rattle.validity.proofs.lanes_in.Goals as goal

pub invariant_of-result : goal.invariant_of-result
unfolding lanes_of
invariant_of-result c = record { laid = lanes_laid c.args.b.now c.args.f _ c.requires refl }

pub returns-clause-place : goal.returns-clause-place
unfolding lanes_of
returns-clause-place c = refl
