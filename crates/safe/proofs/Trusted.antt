-- Safe since o exists, every subject above o is trusted and, if x is a basic right, no untrusted subject has its star over o.
use Rattle.std.specs.Prelude.{ℕ, ◌≡◌, refl, Bool, true, false}
use Rattle.std.proofs.Common.{sym, subst, inl, inr, ⊎_elim}
use Rattle.matrix.specs.declared.Name.{Name}
use Rattle.matrix.specs.declared.Right.{Right}
use Rattle.matrix.specs.declared.Right.TheVariants.{Own, Control, Basic}
use Rattle.matrix.specs.State.{State, exists_name, held}
use Rattle.matrix.specs.Valid.{Valid}
use Rattle.kept.proofs.Keeps.{keeps}
use Rattle.question.specs.Safe.{Safe}
use Rattle.safe.specs.Runs.{safe_by}
use Rattle.safe.specs.Conditions.{TrustedAbove, Starless, has_star, UpFrom}
use Rattle.safe.specs.Guarded.{Guarded, guarded_next}
use Rattle.safe.specs.Trusted.{above_exists, up_owner}

-- the two ways to say that no untrusted subject has the star
starless_star : (S : State) (trusted : ℕ → Bool) (o : Name) (x : Right) → Starless S trusted o x → (v : ℕ) → trusted v ≡ false
    → has_star S x v o ≡ false
starless_star S trusted o Own none v u = refl
starless_star S trusted o Control none v u = refl
starless_star S trusted o (Basic k f) none v u = none k f refl v u

pub guarded_safe : (basics : ℕ) (S : State) (trusted : ℕ → Bool) (s : ℕ) (o : Name) (x : Right) → Valid S → held S x s o ≡ false
    → exists_name S o ≡ true → TrustedAbove S.owns trusted o → Starless S trusted o x → Safe basics S trusted s o x
guarded_safe basics S trusted s o x v unheld there above starless =
    safe_by basics S trusted s o x (λ T. Valid T × Kept T) (v, start)
    (λ T c begun k. (keeps basics true T c k.0, guarded_next A (λ d. ⊥) trusted s o x basics true T c k.0 (inl refl) begun (λ e d. d) k.1))
    (λ T k. k.1.unheld)
  where
    A : Name → Type 0
    A = UpFrom S.owns o

    Kept : State → Type 0
    Kept T = Guarded A (λ d. ⊥) trusted s o x T

    start : Kept S
    start =
        record {
          there = λ a up. ⊎_elim (λ e. subst (λ (n : Name). exists_name S n ≡ true) (sym e) there)
              (λ m. subst (λ (n : Name). exists_name S n ≡ true) (sym m.1) (above_exists v o m.0 m.2)) up;
          owners = λ a up w h. let higher = up_owner S.owns o a up w h in (above w higher, inl (inr (w, refl, higher)));
          starless = starless_star S trusted o x starless;
          unheld = unheld;
        }
