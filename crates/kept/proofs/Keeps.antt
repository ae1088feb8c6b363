-- A valid state stays valid: under every command, and through a list of commands.
use Rattle.std.specs.Prelude.{ℕ, ◌+◌, ◌≡◌, Bool, true, false, List, [], ◌∷◌, eqb}
use Rattle.std.proofs.Common.{sym, ap, subst, ⊎_elim, eqb-true}
use Rattle.std.proofs.lemmas.Bool.{false≢true, not-true}
use Rattle.matrix.specs.declared.Name.{Name}
use Rattle.matrix.specs.declared.Right.TheVariants.{Own, Control, Basic}
use Rattle.matrix.specs.declared.Act.{Act}
use Rattle.matrix.specs.declared.Act.TheVariants.{Transfer, Grant, Delete, CreateObject, DestroyObject, CreateSubject, DestroySubject}
use Rattle.matrix.specs.declared.Command.{Command}
use Rattle.matrix.specs.declared.Fields.{Fields}
use Rattle.matrix.specs.declared.Shape.{Shape}
use Rattle.matrix.specs.State.{State, exists, exists_name}
use Rattle.matrix.specs.Commands.{Raw, rule_of, decode}
use Rattle.matrix.specs.Changes.{change}
use Rattle.matrix.specs.Step.{refusal_of, refusal, next}
use Rattle.matrix.specs.Shape.{basics_of}
use Rattle.matrix.specs.Calls.{raw_of, names_fit, refusal_on, next_on, run_from}
use Rattle.matrix.specs.Valid.{Valid}
use Rattle.laws.specs.Tests.{way, and_left}
use Rattle.laws.specs.Passed.{taken}
use Rattle.owners.specs.Framed.{valid_framed, owned_not_root}
use Rattle.kept.specs.Allowed.{Allowed, allowed}
use Rattle.kept.specs.Bits.{basic_keeps, object_keeps, control_keeps, object_destroyed}
use Rattle.kept.proofs.Transferred.{transfer_keeps, handed_lasts}
use Rattle.kept.specs.Subjects.{created_keeps}
use Rattle.kept.proofs.Subjects.{destroyed_keeps}

-- the change of each command that passed its tests
act_keeps : (S : State) (c : Command) (a : Act) → Valid S → Allowed S c a → Valid (change S c a)
act_keeps S c (Transfer Own) h p =
    transfer_keeps S c.i c.s c.o h (and_left (exists S c.s) (exists_name S c.o) p.there)
    p.entitled (not-true _ p.unmet)
act_keeps S c (Transfer Control) h p = absurd (false≢true p.entitled)
act_keeps S c (Transfer (Basic k f)) h p =
    basic_keeps k f c.s c.o true S h p.there
act_keeps S c (Grant Own) h p = object_keeps c.s c.o S p.kind h (and_left (exists S c.s) (exists_name S c.o) p.there)
act_keeps S c (Grant Control) h p =
    control_keeps c.s c.o S p.kind h p.there (owned_not_root (valid_framed h) c.i c.o p.entitled) (not-true _ p.alone)
act_keeps S c (Grant (Basic k f)) h p =
    basic_keeps k f c.s c.o true S h p.there
act_keeps S c (Delete Own) h p = absurd (false≢true p.entitled)
act_keeps S c (Delete Control) h p = absurd (false≢true p.entitled)
act_keeps S c (Delete (Basic k f)) h p =
    basic_keeps k f c.s c.o false S h p.there
act_keeps S c CreateObject h p = object_keeps c.i c.o S p.kind h p.initiator
act_keeps S c DestroyObject h p = object_destroyed c.o S p.kind h
act_keeps S c CreateSubject h p = created_keeps S c.i c.s h p.initiator (not-true _ p.absent)
act_keeps S c DestroySubject h p = destroyed_keeps S c.i c.s h p.initiator p.entitled

-- A decoded command that is not refused keeps validity.
pub change_keeps : (S : State) (c : Command) → Valid S → refusal_of S c ≡ 0 → Valid (change S c c.act)
change_keeps S c h accepted = act_keeps S c c.act h (allowed S c accepted)

-- Every command keeps validity: where it is accepted by its change, elsewhere because it changes nothing.
pub keeps : (basics : ℕ) (names : Bool) (S : State) (c : Raw) → Valid S → Valid (next basics names S c)
unfolding next
keeps basics names S c h =
    ⊎_elim (λ e. rw e (change_keeps S (decode c) h (taken basics names S c (eqb-true (refusal basics names S c) 0 e)).decoded))
    (λ e. rw e h) (way (eqb (refusal basics names S c) 0))

-- In a valid state no name vanishes by code 3: a plain object whose last owner hands it on is owned by s then.
pub transfer_lasts : (basics : ℕ) (names : Bool) (S : State) (c : Raw) → c.code ≡ 3 → Valid S → (x : Name) → exists_name S x ≡ true
    → exists_name (next basics names S c) x ≡ true
unfolding next
transfer_lasts basics names S c three h x there =
    ⊎_elim (λ e. rw e (lasts (allowed S (decode c) (taken basics names S c (eqb-true (refusal basics names S c) 0 e)).decoded)))
    (λ e. rw e there) (way (eqb (refusal basics names S c) 0))
  where
    own : Transfer Own ≡ (decode c).act
    own = sym (ap (λ (m : ℕ). (rule_of m c.k).act) three)

    lasts : Allowed S (decode c) (decode c).act → exists_name (change S (decode c) (decode c).act) x ≡ true
    lasts = subst (λ (a : Act). Allowed S (decode c) a → exists_name (change S (decode c) a) x ≡ true) own
        (λ p. handed_lasts c.i c.s c.o S (h.bound c.s (and_left (exists S c.s) (exists_name S c.o) p.there)) x there)

-- So does a command on a state of a record's shape, and a run over a list of commands.
pub on_keeps : (f : Shape) (S : State) (c : Fields) → Valid S → Valid (next_on f S c)
unfolding next_on
on_keeps f S c h = keeps (basics_of f) (names_fit f c) S (raw_of f c) h

pub run_keeps : (accepted : ℕ) (f : Shape) (S : State) (cs : List Fields) → Valid S → Valid (run_from accepted f S cs).state
unfolding run_from
run_keeps accepted f S [] h = h
run_keeps accepted f S (c ∷ cs) h =
    ⊎_elim (λ e. rw e (run_keeps (accepted + 1) f (next_on f S c) cs (on_keeps f S c h))) (λ e. rw e h) (way (eqb (refusal_on f S c) 0))
