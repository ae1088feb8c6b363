-- The invariant: the subjects before the one come to are destroyed.
use Rattle.std.proofs.Common.{◌≡◌, take}
use Rattle.route.specs.Parts.{destroys_all}
use Rattle.telling.specs.Tells.{Tells}
use Rattle.telling.proofs.put_destroys.Given as goal

abbrev pub invariant-loop-w : goal.invariant-loop-w
invariant-loop-w l =
    record { told : Tells l.initial.out l.out 0 (destroys_all l.v (take l.w-index l.path)) l.j; number : l.j ≡ l.w-index }
