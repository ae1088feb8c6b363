-- `tallies::Counts::join` meets its contract: the numbers have room.
use native.Mathlib.Omega.{arith}
use Rattle.tallies.specs.Halves.{low_fits, since_fits}
use Rattle.tallies.proofs.Counts.join.Goals as goal

pub overflow_add-self-in-loop-j : goal.overflow_add-self-in-loop-j
overflow_add-self-in-loop-j c =
    let l = c.loop-j in
    record { fits = omega (arith, low_fits _ _ l.j _ c.requires.1 c.loop-j-test.true l.invariant) }

pub overflow_add-self-in-loop-j-3 : goal.overflow_add-self-in-loop-j-3
overflow_add-self-in-loop-j-3 c =
    let l = c.loop-j in
    record { fits = omega (arith, since_fits _ _ l.j _ c.requires.1 c.loop-j-test.true l.invariant) }

pub returns-clause-bytes : goal.returns-clause-bytes
returns-clause-bytes c = record { octet = λ j. (c.type_inv.b j).fits }
