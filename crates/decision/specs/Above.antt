-- The list of an untrusted subject above o leaks.
use Rattle.std.specs.Prelude.{ℕ, ◌+◌, ◌≤◌, ◌<◌, ◌≡◌, ◌≢◌, Bool, ◌&&◌, ◌||◌}
use Rattle.std.proofs.Common.{arith, ◌∙◌, ap, length-append, eqb-true}
use Rattle.std.proofs.Math.Path.{refl, sym, subst}
use Rattle.std.proofs.Math.Logic.{⊎_elim}
use Rattle.std.proofs.Math.Bool.{true, false, cond, not}
use mathlib.Core.List.{List, [], ◌++◌}
use Rattle.std.proofs.Math.Dec.{eqb}
use Rattle.std.proofs.Math.ListN.{length}
use Rattle.matrix.specs.declared.Name.{Name}
use Rattle.matrix.specs.declared.Name.TheVariants.{Subject}
use Rattle.matrix.specs.declared.Right.{Right}
use Rattle.matrix.specs.declared.Right.TheVariants.{Own, Control, Basic}
use Rattle.matrix.specs.declared.Fields.{Fields}
use Rattle.matrix.specs.declared.Shape.{Shape}
use Rattle.matrix.specs.Names.{is_subject}
use Rattle.matrix.specs.State.{State, held, exists, exists_name}
use Rattle.matrix.specs.Owners.{walk, meets}
use Rattle.laws.specs.Tests.{way, clash, and_left, and_right, or_none_left}
use Rattle.question.specs.Leaks.{Untrusted, LeaksBy}
use Rattle.route.specs.Parts.{held_by_own, finish, destroys_all, among}
use Rattle.steps.specs.Runs.{untrusted_append}
use Rattle.finish.specs.Reaches.{reaches_none, reaches_append, reaches_leak}
use Rattle.finish.specs.States.{own_held}
use Rattle.finish.specs.Finish.{Gainable, Ready, again_needed}
use Rattle.finish.proofs.Finish.{finish_runs}
use Rattle.finish.specs.Lists.{finish_untrusted, finish_length}
use Rattle.chain.specs.Distinct.{among_here}
use Rattle.chain.specs.Chain.{chain_name}
use Rattle.chain.specs.Rising.{Met}
use Rattle.chain.specs.Destroyed.{Cleared, destroys_begun, destroys_length}
use Rattle.chain.proofs.Destroyed.{clears, cleared_alone, cleared_apart}
use Rattle.decision.specs.Sought.{Sought, gainable, absent_walk, not_both, subject_same}

module _ (f : Shape) (S : State) (trusted : ℕ → Bool) (s : ℕ) (o : Name) where
  -- o exists, and an untrusted subject v is above it
  module _ (x : Right) (v : ℕ) (ws : List ℕ) (q : Sought f S s o x) (m : Met S trusted o v ws) where
    cleared : (T : State) × Cleared f S v ws o T
    cleared = clears f S v ws o q.valid q.within m.chain

    T : State
    T = cleared.0

    absent_now : Bool
    absent_now = not (exists S s) || among s ws

    absent_now_lem : absent_now ≡ not (exists T s)
    unfolding T absent_now
    absent_now_lem = sym (ap not (cleared.1.existing s) ∙ not_both (exists S s) (among s ws))

    no_walk : (a : ℕ) → a ≢ s → meets (walk S s (Subject a)) ≡ false → meets (walk T s (Subject a)) ≡ false
    unfolding T
    no_walk a apart h =
        ⊎_elim (λ e. cleared_apart q.valid cleared.1 s (Subject a) e h)
        (λ e. absent_walk cleared.1.valid s (Subject a) e (λ p. apart (subject_same p))) (way (exists T s))

    readied : (o' : Name) (x : Right) → held S x s o' ≡ false → Gainable s o' x → exists_name S o' ≡ true → (again : Bool) → again ≡ again_needed S s o' x → Ready T s o' x again
    unfolding T
    readied (Subject a) Own none apart there true e = apart
    readied (Subject a) Own none apart there false e = no_walk a apart (sym e)
    readied (Name.Plain a) Own none fit there true e = clash refl e
    readied (Name.Plain a) Own none fit there false e = tt
    readied (Subject a) Control none fit there true e = λ z. clash (subst (λ (u : ℕ). S.controls u (Subject a) ≡ true) z there) (or_none_left (S.controls s (Subject a)) false none)
    readied (Subject a) Control none fit there false e = cleared_alone q.valid cleared.1 (Subject a) (sym e)
    readied (Name.Plain a) Control none fit there again e = absurd fit
    readied (Subject a) (Basic k g) none fit there true e = absurd (clash refl e)
    readied (Subject a) (Basic k g) none fit there false e = tt
    readied (Name.Plain a) (Basic k g) none fit there true e = clash refl e
    readied (Name.Plain a) (Basic k g) none fit there false e = tt

    again : Bool
    again = again_needed S s o x

    -- how many commands there are
    few : (y : Name) (z : Right) (t : Bool) → (is_subject y ≡ true → length ws + 2 ≤ f.n) → length ws + 1 ≤ f.n → length ws + (cond (again_needed S s y z) 2 0 + cond t 2 1) ≤ f.n + 2
    few (Subject a) z t sub any =
        let h : length ws + 2 ≤ f.n = sub refl in
        most (again_needed S s (Subject a) z) t h
      where
        most : (u t : Bool) → length ws + 2 ≤ f.n → length ws + (cond u 2 0 + cond t 2 1) ≤ f.n + 2
        most true true h = omega arith
        most true false h = omega arith
        most false true h = omega arith
        most false false h = omega arith
    few (Name.Plain a) z t sub any = subst (λ (u : Bool). length ws + (cond u 2 0 + cond t 2 1) ≤ f.n + 2) (sym (never z)) (two t)
      where
        never : (z : Right) → again_needed S s (Name.Plain a) z ≡ false
        never Own = refl
        never Control = refl
        never (Basic k g) = refl

        two : (t : Bool) → length ws + (0 + cond t 2 1) ≤ f.n + 2
        two true = omega arith
        two false = omega arith

    top_is : S.top ≡ f.n
    top_is = q.within.top

    lv : v < f.n
    lv = subst (λ (k : ℕ). v < k) top_is (m.below v (among_here v ws))

    begun : Untrusted trusted (destroys_all v ws)
    begun = destroys_begun trusted v ws m.untrusted

    owned_now : (held_by_own x && eqb s v) ≡ true → held T x s o ≡ true
    unfolding T
    owned_now e =
        own_held cleared.0 x s o (and_left (held_by_own x) (eqb s v) e)
        (subst (λ (u : ℕ). cleared.0.owns u o ≡ true) (sym (eqb-true s v (and_right (held_by_own x) (eqb s v) e))) cleared.1.owning)

    list_length : (ds : List Fields) → length (destroys_all v ws ++ ds) ≡ length ws + length ds
    list_length ds = length-append (destroys_all v ws) ds ∙ ap (λ (k : ℕ). k + length ds) (destroys_length v ws)

    pub above_leaks : LeaksBy f S trusted s o x (destroys_all v ws ++ cond (held_by_own x && eqb s v) [] (finish v s o x (not (exists S s) || among s ws) (again_needed S s o x)))
    unfolding T absent_now again
    above_leaks = ⊎_elim (λ h. at_once h) (λ h. later h) (way (held_by_own x && eqb s v))
      where
        at_once : (held_by_own x && eqb s v) ≡ true → LeaksBy f S trusted s o x (destroys_all v ws ++ cond (held_by_own x && eqb s v) [] (finish v s o x absent_now again))
        at_once h =
            let z : length ws + 1 ≤ f.n = subst (λ (k : ℕ). length ws + 1 ≤ k) top_is m.few in
            rw h
            (reaches_leak (untrusted_append trusted (destroys_all v ws) [] begun tt) (reaches_append cleared.1.runs (reaches_none (owned_now h)))
            (subst (λ (k : ℕ). k ≤ f.n + 2) (sym (list_length [])) (omega arith)))

        later : (held_by_own x && eqb s v) ≡ false → LeaksBy f S trusted s o x (destroys_all v ws ++ cond (held_by_own x && eqb s v) [] (finish v s o x absent_now again))
        later h =
            let there : exists_name S o ≡ true = chain_name q.valid m.chain in
            rw h
            (reaches_leak (untrusted_append trusted (destroys_all v ws) (finish v s o x absent_now again) begun (finish_untrusted trusted v s o x absent_now again m.untrusted))
            (reaches_append cleared.1.runs
            (finish_runs f v s o x absent_now again cleared.1.valid lv q.subject q.object q.right cleared.1.owning absent_now_lem
            (readied o x q.unheld (gainable s o x q.reachable) there again refl)))
            (subst (λ (k : ℕ). k ≤ f.n + 2) (sym (list_length (finish v s o x absent_now again) ∙ ap (λ (k : ℕ). length ws + k) (finish_length v s o x absent_now again)))
            (few o x absent_now (λ e. subst (λ (k : ℕ). length ws + 2 ≤ k) top_is (m.fewer e)) (subst (λ (k : ℕ). length ws + 1 ≤ k) top_is m.few))))
