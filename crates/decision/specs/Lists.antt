-- The lists of the star route and of a name that is created leak.
use Rattle.std.specs.Prelude.{ℕ, suc, ◌+◌, ◌≤◌, ◌<◌, ◌≡◌, refl, Bool, true, false, cond, not, ◌&&◌, ◌||◌, [], ◌∷◌, ◌++◌, eqb, length}
use Rattle.std.proofs.Common.{arith, sym, subst, ⊎_elim, eqb-true}
use Rattle.std.proofs.lemmas.Bool.{false≢true}
use Rattle.matrix.specs.declared.Name.{Name}
use Rattle.matrix.specs.declared.Name.TheVariants.{Subject}
use Rattle.matrix.specs.declared.Right.{Right}
use Rattle.matrix.specs.declared.Right.TheVariants.{Own, Control, Basic}
use Rattle.matrix.specs.declared.Shape.{Shape}
use Rattle.matrix.specs.Names.{named, same_name}
use Rattle.matrix.specs.State.{State, exists, exists_name}
use Rattle.laws.specs.Tests.{way, and_left, and_right, or_cases}
use Rattle.laws.specs.Same.{same_name_eq}
use Rattle.question.specs.Leaks.{LeaksBy}
use Rattle.route.specs.Parts.{creates, creates_name, held_by_own, finish}
use Rattle.safe.specs.Conditions.{has_star}
use Rattle.steps.specs.Runs.{untrusted_append}
use Rattle.finish.specs.Reaches.{Reaches, reaches_leak}
use Rattle.finish.specs.Finish.{absent_control_runs, pass_runs}
use Rattle.finish.proofs.Finish.{absent_runs, absent_own_runs}
use Rattle.finish.specs.Lists.{create_untrusted, finish_untrusted, pass_untrusted, finish_length, pass_length}
use Rattle.ways.specs.Ways.{is_control, passes_right, made_held}
use Rattle.decision.specs.Sought.{Sought, gainable}

module _ (f : Shape) (S : State) (trusted : ℕ → Bool) (s : ℕ) (o : Name) where
  pub star_leaks : (x : Right) (i : ℕ) → Sought f S s o x → i < S.top → trusted i ≡ false → has_star S x i o ≡ true
      → LeaksBy f S trusted s o x (cond (not (exists S s)) (creates i s ∷ []) [] ++ (passes_right i s o x ∷ []))
  star_leaks Own i q l t h = absurd (false≢true h)
  star_leaks Control i q l t h = absurd (false≢true h)
  star_leaks (Basic k g) i q l t h =
      let li : i < f.n = subst (λ (m : ℕ). i < m) q.within.top l in
      let n : length (cond (not (exists S s)) (creates i s ∷ []) [] ++ (passes_right i s o (Basic k g) ∷ [])) ≡ cond (not (exists S s)) 2 1 = pass_length i s o k g (not (exists S s)) in
      reaches_leak (pass_untrusted trusted i s o k g (not (exists S s)) t)
      (pass_runs f i s o k g (not (exists S s)) q.valid li q.subject q.object q.right h refl) (subst (λ (m : ℕ). m ≤ f.n + 2) (sym n) (few (not (exists S s))))
    where
      few : (t : Bool) → cond t 2 1 ≤ f.n + 2
      few true = omega arith
      few false = omega arith

  -- o is absent, and v creates it
  module _ (x : Right) (v : ℕ) (q : Sought f S s o x) (l : v < S.top) (there : exists S v ≡ true) (t : trusted v ≡ false) (gone : exists_name S o ≡ false) where
    lv : v < f.n
    lv = subst (λ (m : ℕ). v < m) q.within.top l

    made_now : made_held v s o x ≡ true → Reaches f S (creates_name v o ∷ []) s o x
    made_now h = ⊎_elim (λ e. own_made e) (λ e. control_made x e) (or_cases (held_by_own x && eqb s v) (is_control x && same_name (Subject s) o) h)
      where
        own_made : (held_by_own x && eqb s v) ≡ true → Reaches f S (creates_name v o ∷ []) s o x
        own_made e =
            subst (λ (u : ℕ). Reaches f S (creates_name v o ∷ []) u o x) (sym (eqb-true s v (and_right (held_by_own x) (eqb s v) e)))
            (absent_own_runs f v o x (and_left (held_by_own x) (eqb s v) e) lv q.object there gone)

        control_made : (x : Right) → (is_control x && same_name (Subject s) o) ≡ true → Reaches f S (creates_name v o ∷ []) s o x
        control_made Own e = absurd (false≢true e)
        control_made Control e =
            let p : Subject s ≡ o = same_name_eq (Subject s) o e in
            subst (λ (y : Name). Reaches f S (creates_name v y ∷ []) s y Control) p
            (absent_control_runs f v s lv (subst (λ (y : Name). named f.n f.p y ≡ true) (sym p) q.object) there
            (subst (λ (y : Name). exists_name S y ≡ false) (sym p) gone))
        control_made (Basic k g) e = absurd (false≢true e)

    pub creation_leaks : LeaksBy f S trusted s o x (creates_name v o ∷ cond (made_held v s o x) [] (finish v s o x (not (same_name (Subject s) o || exists S s)) false))
    creation_leaks =
        ⊎_elim (λ h. at_once h) (λ h. later h) (way (made_held v s o x))
      where
        absent : Bool
        absent = not (same_name (Subject s) o || exists S s)

        at_once : made_held v s o x ≡ true → LeaksBy f S trusted s o x (creates_name v o ∷ cond (made_held v s o x) [] (finish v s o x absent false))
        at_once h = rw h (reaches_leak (create_untrusted trusted v o t) (made_now h) (omega arith))

        few : (t : Bool) → suc (0 + cond t 2 1) ≤ f.n + 2
        few true = let z : s < f.n = q.subject in omega arith
        few false = omega arith

        later : made_held v s o x ≡ false → LeaksBy f S trusted s o x (creates_name v o ∷ cond (made_held v s o x) [] (finish v s o x absent false))
        later h =
            rw h
            (reaches_leak (untrusted_append trusted (creates_name v o ∷ []) (finish v s o x absent false) (create_untrusted trusted v o t) (finish_untrusted trusted v s o x absent false t))
            (absent_runs f v s o x absent q.valid lv q.subject q.object q.right there gone refl (gainable s o x q.reachable))
            (subst (λ (m : ℕ). suc m ≤ f.n + 2) (sym (finish_length v s o x absent false)) (few absent)))
