-- `masks::Members::next` meets its contract: the lowest member is given, and its bit cleared.
use native.Mathlib.Omega.{arith}
use Rattle.row_search.specs.SomeBelow.{some_was}
use Rattle.masks.specs.Stepping.{stepped, emptied}
use Rattle.masks.proofs.MembersIterator.next.Goals as goal

pub returns-in_err-v-clause-steps : goal.returns-in_err-v-clause-steps
returns-in_err-v-clause-steps c = emptied _ _ (omega arith) c.from_residual.ensures c.in_err-v.ensures

pub overflow_shl-self : goal.overflow_shl-self
overflow_shl-self c = (some_was c.in_ok-v.ensures).0

pub returns-clause-steps : goal.returns-clause-steps
returns-clause-steps c = let s = stepped (omega arith) c.in_ok-v.ensures in (s.0, s.1)

pub returns-clause-goes : goal.returns-clause-goes
returns-clause-goes c = let s = stepped (omega arith) c.in_ok-v.ensures in record { on = λ f. (tt, tt, s.2); keeps = tt; rests = λ f. tt }
