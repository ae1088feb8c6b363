-- What every command of a list keeps holds after the list: the one induction over lists.
use Rattle.std.specs.Prelude.{ℕ, ◌≡◌, Bool, true, false, List, [], ◌∷◌, eqb}
use Rattle.std.proofs.Common.{⊎_elim, eqb-true}
use Rattle.matrix.specs.declared.Name.{Name}
use Rattle.matrix.specs.declared.Right.{Right}
use Rattle.matrix.specs.State.{State, held}
use Rattle.matrix.specs.Commands.{Raw, decode}
use Rattle.matrix.specs.Changes.{change}
use Rattle.matrix.specs.Step.{refusal, next}
use Rattle.question.specs.Safe.{after, Begun, Safe}
use Rattle.laws.specs.Tests.{way}
use Rattle.laws.specs.Passed.{taken}
use Rattle.kept.specs.Allowed.{Allowed, allowed}

-- What holds of a state, and of its change by a command that is allowed, holds after the command, accepted or refused.
pub next_by : (I : State → Type 0) (basics : ℕ) (names : Bool) (S : State) (c : Raw) → I S
    → (Allowed S (decode c) (decode c).act → I (change S (decode c) (decode c).act)) → I (next basics names S c)
unfolding next
next_by I basics names S c h changed =
    ⊎_elim (λ e. rw e (changed (allowed S (decode c) (taken basics names S c (eqb-true (refusal basics names S c) 0 e)).decoded)))
    (λ e. rw e h) (way (eqb (refusal basics names S c) 0))

-- every member of a list has a property
abbrev pub Each : {A : Type 0} → (A → Type 0) → List A → Type 0
Each P [] = Unit
Each P (c ∷ cs) = P c × Each P cs

pub each_map : {A : Type 0} {P Q : A → Type 0} (xs : List A) → ((x : A) → P x → Q x) → Each P xs → Each Q xs
each_map [] f each = tt
each_map (x ∷ xs) f each = (f x each.0, each_map xs f each.1)

-- what each command of a class keeps, a list of such commands keeps
pub after_keeps : (P : Raw → Type 0) (I : State → Type 0) (basics : ℕ) → ((T : State) (c : Raw) → P c → I T → I (next basics true T c))
    → (S : State) (cs : List Raw) → Each P cs → I S → I (after basics S cs)
unfolding after
after_keeps P I basics step S [] each h = h
after_keeps P I basics step S (c ∷ cs) each h =
    after_keeps P I basics step (next basics true S c) cs each.1 (step S c each.0 h)

-- the class of the safety question: the commands that untrusted subjects begin
pub begun_each : (trusted : ℕ → Bool) (cs : List Raw) → Begun trusted cs → Each (λ c. trusted c.i ≡ false) cs
begun_each trusted [] h = tt
begun_each trusted (c ∷ cs) h = (h.0, begun_each trusted cs h.1)

-- A right is safe by a property of states: it holds at the start, every command of an untrusted subject keeps it, and where it holds
-- the right is not held.
pub safe_by : (basics : ℕ) (S : State) (trusted : ℕ → Bool) (s : ℕ) (o : Name) (x : Right) (I : State → Type 0) → I S
    → ((T : State) (c : Raw) → trusted c.i ≡ false → I T → I (next basics true T c))
    → ((T : State) → I T → held T x s o ≡ false) → Safe basics S trusted s o x
safe_by basics S trusted s o x I start step unheld =
    record {
      never = λ cs begun. unheld (after basics S cs)
          (after_keeps (λ c. trusted c.i ≡ false) I basics step S cs (begun_each trusted cs begun) start);
    }
