-- Safe since no untrusted subject exists: an initiator has to exist, so nothing is ever accepted.
use Rattle.std.specs.Prelude.{ℕ, ◌≡◌, Bool, true, false}
use Rattle.matrix.specs.declared.Name.{Name}
use Rattle.matrix.specs.declared.Right.{Right}
use Rattle.matrix.specs.State.{State, exists, held}
use Rattle.laws.specs.Tests.{clash}
use Rattle.question.specs.Safe.{Safe}
use Rattle.safe.specs.Runs.{next_by, safe_by}

-- every subject that exists is trusted, and the right is not held
record Closed (trusted : ℕ → Bool) (s : ℕ) (o : Name) (x : Right) (S : State) : Type 0 where
  pub all_trusted : (v : ℕ) → exists S v ≡ true → trusted v ≡ true
  pub unheld : held S x s o ≡ false

pub nobody_safe : (basics : ℕ) (S : State) (trusted : ℕ → Bool) (s : ℕ) (o : Name) (x : Right) → held S x s o ≡ false
    → ((v : ℕ) → exists S v ≡ true → trusted v ≡ true) → Safe basics S trusted s o x
nobody_safe basics S trusted s o x unheld all_trusted =
    safe_by basics S trusted s o x (Closed trusted s o x) (record { all_trusted = all_trusted; unheld = unheld })
    (λ T c begun k. next_by (Closed trusted s o x) basics true T c k (λ p. absurd (clash (k.all_trusted c.i p.initiator) begun)))
    (λ T k. k.unheld)
