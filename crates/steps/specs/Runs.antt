-- Lists of commands that are all accepted: put together, run, and what they keep. A list that leaks shows that the right is not safe.
use Rattle.std.specs.Prelude.{ℕ, ◌+◌, ◌≤◌, ◌≡◌, refl, Bool, true, List, [], ◌∷◌, ◌++◌, map, eqb, length}
use Rattle.std.proofs.Common.{arith, ◌∙◌, ap, subst, ⊎_elim, eqb-true}
use Rattle.std.proofs.lemmas.Bool.{eqb-false}
use Rattle.matrix.specs.declared.Name.{Name}
use Rattle.matrix.specs.declared.Right.{Right}
use Rattle.matrix.specs.declared.Fields.{Fields}
use Rattle.matrix.specs.declared.Shape.{Shape}
use Rattle.matrix.specs.State.{State, held}
use Rattle.matrix.specs.Step.{refusal, next}
use Rattle.matrix.specs.Shape.{basics_of}
use Rattle.matrix.specs.Calls.{Ran, raw_of, names_fit, refusal_on, next_on, run_from}
use Rattle.laws.specs.Tests.{way, clash}
use Rattle.laws.specs.Passed.{taken}
use Rattle.question.specs.Safe.{Safe, after, Begun}
use Rattle.question.specs.Leaks.{LeaksBy, Untrusted}
use Rattle.route.specs.RunsTo.{Accepts, RunsTo, done, step}

-- one list after another
pub runs_append : {f : Shape} {S T R : State} {cs ds : List Fields} → RunsTo f S cs T → RunsTo f T ds R → RunsTo f S (cs ++ ds) R
runs_append done rest = rest
runs_append (step a r) rest = step a (runs_append r rest)

-- such a list runs to its end
pub runs_from : {f : Shape} {S T : State} {cs : List Fields} → RunsTo f S cs T → (j : ℕ)
    → run_from j f S cs ≡ record { accepted = j + length cs; refusal = 0; state = T }
unfolding run_from
runs_from {T = T} done j = ap (λ (m : ℕ). record { accepted = m; refusal = 0; state = T }) (omega arith)
runs_from {T = T} (step {cs = cs} a r) j =
    rw (a.accepted, a.leaves)
    (runs_from r (j + 1) ∙ ap (λ (m : ℕ). record { accepted = m; refusal = 0; state = T }) (omega arith))

-- and a list that runs to its end is such a list
pub run_runs : (f : Shape) (S : State) (cs : List Fields) (j : ℕ) → (run_from j f S cs).refusal ≡ 0
    → RunsTo f S cs (run_from j f S cs).state
unfolding run_from
run_runs f S [] j h = done
run_runs f S (c ∷ cs) j h =
    ⊎_elim
    (λ e. let g : (run_from (j + 1) f (next_on f S c) cs).refusal ≡ 0 = rw e at h in
    rw e (step (record { accepted = eqb-true (refusal_on f S c) 0 e; leaves = refl }) (run_runs f (next_on f S c) cs (j + 1) g)))
    (λ e. let g : refusal_on f S c ≡ 0 = rw e at h in absurd (eqb-false (refusal_on f S c) 0 e g)) (way (eqb (refusal_on f S c) 0))

-- A command that is accepted on the record is accepted without the bounds on names as well, and leaves the same state.
pub accepts_anywhere : {f : Shape} {S T : State} {c : Fields} → Accepts f S c T → next (basics_of f) true S (raw_of f c) ≡ T
unfolding refusal_on next_on
accepts_anywhere {f} {S} {T} {c} a =
    let fits : names_fit f c ≡ true = (taken (basics_of f) (names_fit f c) S (raw_of f c) a.accepted).bounds in
    subst (λ (t : Bool). next (basics_of f) t S (raw_of f c) ≡ T) fits a.leaves

pub runs_after : {f : Shape} {S T : State} {cs : List Fields} → RunsTo f S cs T → after (basics_of f) S (map (raw_of f) cs) ≡ T
unfolding after
runs_after done = refl
runs_after {f} (step {cs = cs} a r) =
    ap (λ (m : State). after (basics_of f) m (map (raw_of f) cs)) (accepts_anywhere a) ∙ runs_after r

-- the initiators of the commands as given are those of the fields
pub untrusted_begun : (f : Shape) (trusted : ℕ → Bool) (cs : List Fields) → Untrusted trusted cs → Begun trusted (map (raw_of f) cs)
untrusted_begun f trusted [] u = tt
untrusted_begun f trusted (c ∷ cs) u = (u.0, untrusted_begun f trusted cs u.1)

-- A list that leaks: the right is not safe.
pub leaks_unsafe : {f : Shape} {S : State} {trusted : ℕ → Bool} {s : ℕ} {o : Name} {x : Right} {cs : List Fields}
    → LeaksBy f S trusted s o x cs → Safe (basics_of f) S trusted s o x → ⊥
leaks_unsafe {f} {S} {trusted} {s} {o} {x} {cs} l safe =
    let e = runs_after (run_runs f S cs 0 l.accepted) in
    clash l.reached (rw e at (safe.never (map (raw_of f) cs) (untrusted_begun f trusted cs l.begun)))

-- A list whose commands are all accepted, with untrusted initiators, and after which the right is held, leaks.
pub runs_leak : {f : Shape} {S T : State} {trusted : ℕ → Bool} {s : ℕ} {o : Name} {x : Right} {cs : List Fields}
    → Untrusted trusted cs → RunsTo f S cs T → held T x s o ≡ true → length cs ≤ f.n + 2 → LeaksBy f S trusted s o x cs
runs_leak {f} {S} {T} {trusted} {s} {o} {x} {cs} begun r reached few =
    let e = runs_from r 0 in
    record {
      begun = begun;
      accepted = ap (λ (m : Ran). m.refusal) e;
      whole = ap (λ (m : Ran). m.accepted) e ∙ omega arith;
      reached = ap (λ (m : Ran). held m.state x s o) e ∙ reached;
      few = few;
    }

-- the initiators of one list after another
pub untrusted_append : (trusted : ℕ → Bool) (cs ds : List Fields) → Untrusted trusted cs → Untrusted trusted ds → Untrusted trusted (cs ++ ds)
untrusted_append trusted [] ds u w = w
untrusted_append trusted (c ∷ cs) ds u w = (u.0, untrusted_append trusted cs ds u.1 w)
