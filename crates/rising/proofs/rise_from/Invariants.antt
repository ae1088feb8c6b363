-- The loop's invariant: what is left of the way up is the whole way up, and those seen are shut if the subject come to is.
use Prim.Native.Nat.{◌-◌, ◌<◌}
use mathlib.Core.Path.{◌≡◌}
use lib.ListN.{length}
use Rattle.matrix.specs.Reading.{state_of}
use Rattle.question.specs.Trust.{trusted_by}
use Rattle.rising.specs.Shut.{ShutAll, Seen}
use Rattle.rising.specs.Rising.{Rising}
use Rattle.rising.proofs.rise_from.Given as goal

abbrev pub invariant-loop : goal.invariant-loop
invariant-loop l =
    record {
      below : l.at < l.r.f.n;
      count : length l.passed ≡ l.counter;
      rising : Rising (state_of l.r.b.now) (trusted_by l.trust) l.w l.at l.passed (l.r.f.n - l.counter);
      shut : ShutAll (state_of l.r.b.now) (trusted_by l.trust) l.closed;
      seen : Seen (state_of l.r.b.now) (trusted_by l.trust) l.at l.seen;
    }
