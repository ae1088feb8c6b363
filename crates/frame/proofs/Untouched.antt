-- A bit that a command doesn't name is after it as it was before (Manual 5.5).
use Rattle.std.specs.Prelude.{ℕ, ◌≡◌, refl, Bool, false, eqb}
use Rattle.std.proofs.Common.{⊎_elim}
use Rattle.matrix.specs.declared.Name.{Name}
use Rattle.matrix.specs.declared.Right.{Right}
use Rattle.matrix.specs.declared.Command.{Command}
use Rattle.matrix.specs.State.{State, has}
use Rattle.matrix.specs.Commands.{Raw, decode}
use Rattle.matrix.specs.Changes.{change}
use Rattle.matrix.specs.Touched.{touched}
use Rattle.matrix.specs.Step.{refusal, next}
use Rattle.laws.specs.Tests.{way}
use Rattle.frame.specs.Untouched.{untouched_by}

-- for a decoded command
pub untouched : (S : State) (c : Command) (z : Right) (w : ℕ) (x : Name) → touched S c c.act z w x ≡ false → has (change S c c.act) z w x ≡ has S z w x
untouched S c z w x h = untouched_by S c c.act z w x h

-- for a command as given, accepted or refused
pub untouched_next : (basics : ℕ) (names : Bool) (S : State) (c : Raw) (z : Right) (w : ℕ) (x : Name) → touched S (decode c) (decode c).act z w x ≡ false → has (next basics names S c) z w x ≡ has S z w x
unfolding next
untouched_next basics names S c z w x h =
    ⊎_elim (λ e. rw e (untouched S (decode c) z w x h)) (λ e. rw e refl) (way (eqb (refusal basics names S c) 0))
