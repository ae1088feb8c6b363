-- Safe since no valid state has the right: every command keeps a state valid.
use Rattle.std.specs.Prelude.{ℕ, ◌≡◌, false}
use Rattle.std.proofs.Common.{◌∙◌}
use Rattle.std.proofs.Math.Bool.{or-false}
use Rattle.matrix.specs.declared.Name.{Name}
use Rattle.matrix.specs.declared.Name.TheVariants.{Subject, Plain}
use Rattle.matrix.specs.declared.Right.{Right}
use Rattle.matrix.specs.Names.{U}
use Rattle.matrix.specs.State.{State, held}
use Rattle.matrix.specs.Owners.{owner}
use Rattle.matrix.specs.Valid.{Valid}
use Rattle.laws.specs.Tests.{fails}
use Rattle.safe.specs.Possible.{Impossible, own_itself, own_root, control_root, control_plain}

-- No subject owns itself, nobody owns U, nobody but U controls U, and nobody controls a plain object.
pub impossible_unheld : {S : State} → Valid S → (s : ℕ) (o : Name) (x : Right) → Impossible s o x → held S x s o ≡ false
impossible_unheld {S} v s o x (own_itself e q) =
    rw (e, q) (or-false (S.owns s (Subject s)) ∙ fails (S.owns s (Subject s)) (λ h. v.no_cycle s (owner h)))
impossible_unheld {S} v s o x (own_root e q) = rw (e, q) (or-false (S.owns s (Subject U)) ∙ v.root_owner s)
impossible_unheld {S} v s o x (control_root e q d) =
    rw (e, q) (or-false (S.controls s (Subject U)) ∙ fails (S.controls s (Subject U)) (λ h. d (v.root_controller s h)))
impossible_unheld {S} v s o x (control_plain a e q) = rw (e, q) (or-false (S.controls s (Plain a)) ∙ v.plain s a)
