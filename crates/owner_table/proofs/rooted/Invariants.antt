-- The invariant: after i passes v has followed 4 ^ i owners, and unless i is 0 not all have come to U.
use Rattle.std.proofs.Common.{◌≡◌, ◌≤◌, ◌^◌, false, eqb, length}
use Rattle.matrix.specs.Bounded.{all}
use Rattle.owner_table.specs.Followed.{followed}
use Rattle.owner_table.specs.Table.{owner_in, Follows}
use Rattle.owner_table.proofs.rooted.Given as goal

abbrev pub invariant-loop-pass : goal.invariant-loop-pass
invariant-loop-pass l =
    let n = length l.owners in
    let f = owner_in l.owners in record {
      follows : Follows n f (4 ^ l.pass) l.v;
      room : length l.u ≡ n;
      unrooted : 1 ≤ l.pass → all n (λ s. eqb (followed f (4 ^ l.pass) s) 0) ≡ false;
    }
