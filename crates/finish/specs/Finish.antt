-- The ends of leaking lists are accepted, and s holds the right after them: from a state in which v owns o, from one in which o is
-- absent, and from one in which i has the right starred.
use Rattle.std.specs.Prelude.{ℕ, ◌<◌, ◌≡◌, ◌≢◌, Bool, true, false, cond, not, [], ◌∷◌, ◌++◌}
use Rattle.std.proofs.Common.{sym, ap, subst, ⊎_elim}
use Rattle.matrix.specs.declared.Name.{Name}
use Rattle.matrix.specs.declared.Name.TheVariants.{Subject}
use Rattle.matrix.specs.declared.Form.{Form}
use Rattle.matrix.specs.declared.Form.TheVariants.{Starred}
use Rattle.matrix.specs.declared.Right.{Right}
use Rattle.matrix.specs.declared.Right.TheVariants.{Own, Control, Basic}
use Rattle.matrix.specs.declared.Shape.{Shape}
use Rattle.matrix.specs.Names.{column_of, named}
use Rattle.matrix.specs.State.{State, exists}
use Rattle.matrix.specs.Owners.{walk, meets}
use Rattle.matrix.specs.Tests.{other_controller}
use Rattle.matrix.specs.Shape.{basics_of}
use Rattle.matrix.specs.Valid.{Valid}
use Rattle.laws.specs.Tests.{clash, fails}
use Rattle.kept.specs.Cells.{put_new}
use Rattle.frame.specs.Top.{controller_found}
use Rattle.route.specs.Parts.{creates, creates_name, gives, passes, basic_number}
use Rattle.steps.specs.Accepted.{Givable, created, create_accepted, give_accepted, pass_accepted}
use Rattle.finish.specs.Reaches.{Reaches, reaches_one, reaches_created}
use Rattle.finish.specs.States.{walk_beside, created_valid, created_owned, created_owns, created_controller, has_held, put_held, given_held}

-- ---- v owns o
-- v can still give the right to s, who was absent, after it created s
givable_after : {S : State} (v s : ℕ) (o : Name) (x : Right) → Valid S → exists S s ≡ false → S.owns v o ≡ true → Givable S s o x
    → Givable (created v (Subject s) S) s o x
givable_after {S} v s (Subject a) Own h absent own fit =
    walk_beside (created_valid v (Subject s) h (h.row Own v (Subject a) own) absent) v s a (created_owned v (Subject s) S)
    (created_owns v (Subject s) S v (Subject a) own)
    (λ e. clash (h.column Own v (Subject a) own) (subst (λ (n : ℕ). exists S n ≡ false) e absent))
givable_after {S} v s (Name.Plain a) Own h absent own fit = tt
givable_after {S} v s (Subject a) Control h absent own alone =
    fails (other_controller (created v (Subject s) S) (Subject a))
    (λ e. let w = (controller_found (created_valid v (Subject s) h (h.row Own v (Subject a) own) absent) (Subject a)).0 e in
    ⊎_elim (λ old. clash ((controller_found h (Subject a)).1 (w.0, old, w.2)) alone)
    (λ p. clash (h.column Own v (Subject a) own) (subst (λ (n : ℕ). exists S n ≡ false) (sym (ap column_of p.1)) absent))
    (created_controller v (Subject s) S w.0 (Subject a) w.1))
givable_after {S} v s (Name.Plain a) Control h absent own never = absurd never
givable_after {S} v s (Subject a) (Basic k g) h absent own fit = tt
givable_after {S} v s (Name.Plain a) (Basic k g) h absent own fit = tt

-- s is created where it is absent, and v gives s the right
pub give_runs : {S : State} (f : Shape) (v s : ℕ) (o : Name) (x : Right) (absent : Bool) → Valid S → v < f.n → s < f.n
    → named f.n f.p o ≡ true → basic_number x < basics_of f → S.owns v o ≡ true → absent ≡ not (exists S s) → Givable S s o x
    → Reaches f S (cond absent (creates v s ∷ []) [] ++ (gives v s o x ∷ [])) s o x
give_runs {S} f v s o x absent h lv ls inside lk own e fit =
    let ev : exists S v ≡ true = h.row Own v o own in
    reaches_created v s absent lv ls ev e
    (λ there. reaches_one (give_accepted f v s o x h lv ls inside lk there own fit) (given_held v s o x S))
    (λ new. let made = created v (Subject s) S in
    reaches_one
    (give_accepted f v s o x (created_valid v (Subject s) h ev new) lv ls inside lk (put_new s (Subject s) S.controls)
    (created_owns v (Subject s) S v o own) (givable_after v s o x h new own fit)) (given_held v s o x made))

-- The rights that s can have over a name that v created: own of another subject or a plain object, control of a subject, basic rights.
abbrev pub Gainable : ℕ → Name → Right → Type 0
Gainable s (Subject a) Own = a ≢ s
Gainable s (Name.Plain a) Own = Unit
Gainable s (Subject a) Control = Unit
Gainable s (Name.Plain a) Control = ⊥
Gainable s (Subject a) (Basic k g) = Unit
Gainable s (Name.Plain a) (Basic k g) = Unit

-- What the end of a list needs besides that v owns o: o is a subject other than s, if it is destroyed and created again; else v can
-- give s the right as things are.
abbrev pub Ready : State → ℕ → Name → Right → Bool → Type 0
Ready S s o x false = Givable S s o x
Ready S s (Subject a) x true = a ≢ s
Ready S s (Name.Plain a) x true = ⊥

-- Whether o is to be destroyed and created again: own of a subject that the walk from s meets, and control of one that another controls.
abbrev pub again_needed : State → ℕ → Name → Right → Bool
again_needed S s (Subject a) Own = meets (walk S s (Subject a))
again_needed S s (Name.Plain a) Own = false
again_needed S s (Subject a) Control = other_controller S (Subject a)
again_needed S s (Name.Plain a) Control = false
again_needed S s o (Basic k g) = false

pub absent_control_runs : {S : State} (f : Shape) (v s : ℕ) → v < f.n → named f.n f.p (Subject s) ≡ true → exists S v ≡ true
    → exists S s ≡ false → Reaches f S (creates_name v (Subject s) ∷ []) s (Subject s) Control
absent_control_runs {S} f v s lv inside ev none =
    reaches_one (create_accepted f v (Subject s) lv inside ev none)
    (has_held (created v (Subject s) S) Control s (Subject s) (put_new s (Subject s) S.controls))

-- ---- i has the right starred
-- s is created where it is absent, and i passes it the right
pub pass_runs : {S : State} (f : Shape) (i s : ℕ) (o : Name) (k : ℕ) (g : Form) (absent : Bool) → Valid S → i < f.n → s < f.n
    → named f.n f.p o ≡ true → k < basics_of f → S.basic k Starred i o ≡ true → absent ≡ not (exists S s)
    → Reaches f S (cond absent (creates i s ∷ []) [] ++ (passes i s o k g ∷ [])) s o (Basic k g)
pass_runs {S} f i s o k g absent h li ls inside lk star e =
    let ei : exists S i ≡ true = h.row (Basic k Starred) i o star in
    reaches_created i s absent li ls ei e
    (λ there. reaches_one (pass_accepted f i s o k g h li ls inside lk there star) (put_held (Basic k g) s o S))
    (λ new. reaches_one
    (pass_accepted f i s o k g (created_valid i (Subject s) h ei new) li ls inside lk (put_new s (Subject s) S.controls) star)
    (put_held (Basic k g) s o (created i (Subject s) S)))
