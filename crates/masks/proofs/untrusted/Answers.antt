-- `masks::untrusted` meets its contract: a member stays where its bit of the complement is set.
use native.Mathlib.Omega.{arith}
use Rattle.masks.specs.Untrusted.{left_out}
use Rattle.masks.proofs.untrusted.Goals as goal

pub returns : goal.returns
returns c = left_out c.args.set c.args.trust (omega arith) (omega arith)
