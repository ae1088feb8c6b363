-- The ends of leaking lists are accepted, and s holds the right after them: from a state in which v owns o, from one in which o is
-- absent, and from one in which i has the right starred.
use Rattle.std.specs.Prelude.{ℕ, ◌<◌, ◌≡◌, ◌≢◌, Bool, true, false, not, ◌||◌, [], ◌∷◌}
use Rattle.std.proofs.Common.{sym, ◌∙◌, ap, subst, ltb-true, ne_eqb}
use Rattle.matrix.specs.declared.Name.{Name}
use Rattle.matrix.specs.declared.Name.TheVariants.{Subject}
use Rattle.matrix.specs.declared.Right.{Right}
use Rattle.matrix.specs.declared.Right.TheVariants.{Own, Control, Basic}
use Rattle.matrix.specs.declared.Shape.{Shape}
use Rattle.matrix.specs.Names.{same_name, named}
use Rattle.matrix.specs.State.{State, exists, exists_name}
use Rattle.matrix.specs.Owners.{owner}
use Rattle.matrix.specs.Shape.{basics_of}
use Rattle.matrix.specs.Valid.{Valid}
use Rattle.kept.proofs.Subjects.{destroyed_keeps}
use Rattle.route.specs.Parts.{creates_name, basic_number, held_by_own, finish}
use Rattle.steps.specs.Accepted.{Givable, created, destroy_accepted, create_accepted}
use Rattle.finish.specs.Reaches.{Reaches, reaches_step, reaches_one}
use Rattle.finish.specs.States.{walk_apart, created_valid, created_owned, created_exists, created_alone, created_bare, destroyed, destroyed_absent, destroyed_exists, own_held}
use Rattle.finish.specs.Finish.{Gainable, Ready, give_runs}

-- v can give them once it created o: nobody else controls o, and a subject o owns nothing
givable_created : {S : State} (v s : ℕ) (o : Name) (x : Right) → Valid S → exists S v ≡ true → exists_name S o ≡ false → Gainable s o x
    → Givable (created v o S) s o x
givable_created {S} v s (Subject a) Own h ev absent apart =
    walk_apart (created v (Subject a) S) s a (λ e. apart (sym e)) (created_bare v a h ev absent)
givable_created {S} v s (Name.Plain a) Own h ev absent fit = tt
givable_created {S} v s (Subject a) Control h ev absent fit = created_alone v (Subject a) h ev absent
givable_created {S} v s (Name.Plain a) Control h ev absent never = absurd never
givable_created {S} v s (Subject a) (Basic k g) h ev absent fit = tt
givable_created {S} v s (Name.Plain a) (Basic k g) h ev absent fit = tt

-- every right can be had over another subject
other_gainable : (s a : ℕ) (x : Right) → a ≢ s → Gainable s (Subject a) x
other_gainable s a Own apart = apart
other_gainable s a Control apart = tt
other_gainable s a (Basic k g) apart = tt

-- From any valid state in which v owns o, s holds the right after the end of the list.
pub finish_runs : {S : State} (f : Shape) (v s : ℕ) (o : Name) (x : Right) (absent again : Bool) → Valid S → v < f.n → s < f.n
    → named f.n f.p o ≡ true → basic_number x < basics_of f → S.owns v o ≡ true → absent ≡ not (exists S s) → Ready S s o x again
    → Reaches f S (finish v s o x absent again) s o x
finish_runs f v s o x absent false h lv ls inside lk own e fit = give_runs f v s o x absent h lv ls inside lk own e fit
finish_runs f v s (Name.Plain a) x absent true h lv ls inside lk own e never = absurd never
finish_runs {S} f v s (Subject a) x absent true h lv ls inside lk own e apart =
    let ev : exists S v ≡ true = h.row Own v (Subject a) own in
    let gone = destroyed v a S in
    let valid : Valid gone = destroyed_keeps S v a h ev own in
    let differs : v ≢ a = λ q. h.no_cycle a (owner (subst (λ (n : ℕ). S.owns n (Subject a) ≡ true) q own)) in
    let stays : exists gone v ≡ true = destroyed_exists v a S v differs ∙ ev in
    let free : exists gone a ≡ false = destroyed_absent v a S in
    let other : s ≢ a = λ q. apart (sym q) in
    let same : exists (created v (Subject a) gone) s ≡ exists S s =
    created_exists v (Subject a) gone s ∙ ap (λ (t : Bool). t || exists gone s) (ne_eqb s a other) ∙ destroyed_exists v a S s other in
    reaches_step (destroy_accepted f v a h lv (ltb-true a f.n inside) own)
    (reaches_step (create_accepted f v (Subject a) lv inside stays free)
    (give_runs f v s (Subject a) x absent (created_valid v (Subject a) valid stays free) lv ls inside lk (created_owned v (Subject a) gone)
    (e ∙ ap not (sym same)) (givable_created v s (Subject a) x valid stays free (other_gainable s a x apart))))

-- ---- o is absent
-- v creates o; s, if it is absent still, is created; and v gives s the right
pub absent_runs : {S : State} (f : Shape) (v s : ℕ) (o : Name) (x : Right) (absent : Bool) → Valid S → v < f.n → s < f.n
    → named f.n f.p o ≡ true → basic_number x < basics_of f → exists S v ≡ true → exists_name S o ≡ false
    → absent ≡ not (same_name (Subject s) o || exists S s) → Gainable s o x
    → Reaches f S (creates_name v o ∷ finish v s o x absent false) s o x
absent_runs {S} f v s o x absent h lv ls inside lk ev none e fit =
    reaches_step (create_accepted f v o lv inside ev none)
    (give_runs f v s o x absent (created_valid v o h ev none) lv ls inside lk (created_owned v o S)
    (e ∙ ap not (sym (created_exists v o S s))) (givable_created v s o x h ev none fit))

-- Creating o is enough for what own makes held, by v itself, and for control of a subject over itself.
pub absent_own_runs : {S : State} (f : Shape) (v : ℕ) (o : Name) (x : Right) → held_by_own x ≡ true → v < f.n → named f.n f.p o ≡ true
    → exists S v ≡ true → exists_name S o ≡ false → Reaches f S (creates_name v o ∷ []) v o x
absent_own_runs {S} f v o x e lv inside ev none =
    reaches_one (create_accepted f v o lv inside ev none) (own_held (created v o S) x v o e (created_owned v o S))
