-- Lists of accepted commands after which s holds a right.
use Rattle.std.specs.Prelude.{ℕ, ◌+◌, ◌≤◌, ◌<◌, ◌≡◌, Bool, true, false, cond, not, List, [], ◌∷◌, ◌++◌, length}
use Rattle.std.proofs.Common.{sym, lt-ltb}
use Rattle.std.proofs.lemmas.Bool.{not-true, not-false}
use Rattle.matrix.specs.declared.Name.{Name}
use Rattle.matrix.specs.declared.Name.TheVariants.{Subject}
use Rattle.matrix.specs.declared.Right.{Right}
use Rattle.matrix.specs.declared.Fields.{Fields}
use Rattle.matrix.specs.declared.Shape.{Shape}
use Rattle.matrix.specs.State.{State, exists, held}
use Rattle.question.specs.Leaks.{LeaksBy, Untrusted}
use Rattle.route.specs.Parts.{creates}
use Rattle.route.specs.RunsTo.{Accepts, RunsTo, done, step}
use Rattle.steps.specs.Runs.{runs_append, runs_leak}
use Rattle.steps.specs.Accepted.{created, create_accepted}

-- every command is accepted in turn, and s holds x over o in the state that is left
pub record Reaches (f : Shape) (S : State) (cs : List Fields) (s : ℕ) (o : Name) (x : Right) : Type 0 where
  pub state : State
  pub runs : RunsTo f S cs state
  pub reached : held state x s o ≡ true

-- the right is held already; one command more at the start; a list more at the start
pub reaches_none : {f : Shape} {S : State} {s : ℕ} {o : Name} {x : Right} → held S x s o ≡ true → Reaches f S [] s o x
reaches_none {S = S} h = record { state = S; runs = done; reached = h }

pub reaches_step : {f : Shape} {S T : State} {c : Fields} {cs : List Fields} {s : ℕ} {o : Name} {x : Right}
    → Accepts f S c T → Reaches f T cs s o x → Reaches f S (c ∷ cs) s o x
reaches_step a r = record { state = r.state; runs = step a r.runs; reached = r.reached }

pub reaches_one : {f : Shape} {S T : State} {c : Fields} {s : ℕ} {o : Name} {x : Right}
    → Accepts f S c T → held T x s o ≡ true → Reaches f S (c ∷ []) s o x
reaches_one a h = reaches_step a (reaches_none h)

pub reaches_append : {f : Shape} {S T : State} {cs ds : List Fields} {s : ℕ} {o : Name} {x : Right}
    → RunsTo f S cs T → Reaches f T ds s o x → Reaches f S (cs ++ ds) s o x
reaches_append r e = record { state = e.state; runs = runs_append r e.runs; reached = e.reached }

-- with untrusted initiators and at most n + 2 commands, such a list leaks
pub reaches_leak : {f : Shape} {S : State} {trusted : ℕ → Bool} {cs : List Fields} {s : ℕ} {o : Name} {x : Right}
    → Untrusted trusted cs → Reaches f S cs s o x → length cs ≤ f.n + 2 → LeaksBy f S trusted s o x cs
reaches_leak u r few = runs_leak u r.runs r.reached few

-- A subject s is created by v where it is absent; the command that follows is looked at in either case.
pub reaches_created : {f : Shape} {S : State} {c : Fields} {t : ℕ} {o : Name} {x : Right} (v s : ℕ) (absent : Bool)
    → v < f.n → s < f.n → exists S v ≡ true → absent ≡ not (exists S s)
    → (exists S s ≡ true → Reaches f S (c ∷ []) t o x) → (exists S s ≡ false → Reaches f (created v (Subject s) S) (c ∷ []) t o x)
    → Reaches f S (cond absent (creates v s ∷ []) [] ++ (c ∷ [])) t o x
reaches_created {f} {S} v s true lv ls ev e there new =
    let no : exists S s ≡ false = not-true (exists S s) (sym e) in
    reaches_step (create_accepted f v (Subject s) lv (lt-ltb s f.n ls) ev no) (new no)
reaches_created {f} {S} v s false lv ls ev e there new = there (not-false (exists S s) (sym e))
