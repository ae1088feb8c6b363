-- Safe since no valid state has the right: every command keeps a state valid.
use Rattle.std.specs.Prelude.{ℕ, ◌≡◌, refl, Bool, true, false, not, ◌&&◌, eqb}
use Rattle.std.proofs.Common.{ap, ⊎_elim, eqb-true, ne_eqb}
use Rattle.std.proofs.lemmas.Bool.{false≢true, eqb-false, not-false}
use Rattle.matrix.specs.declared.Name.{Name}
use Rattle.matrix.specs.declared.Name.TheVariants.{Subject, Plain}
use Rattle.matrix.specs.declared.Right.{Right}
use Rattle.matrix.specs.declared.Right.TheVariants.{Own, Control, Basic}
use Rattle.matrix.specs.Names.{U}
use Rattle.matrix.specs.State.{State}
use Rattle.matrix.specs.Valid.{Valid}
use Rattle.laws.specs.Tests.{way, clash, fails, and_right, or_none_left, or_none_right}
use Rattle.laws.specs.Same.{eqb_same}
use Rattle.kept.proofs.Keeps.{keeps}
use Rattle.question.specs.Safe.{Safe}
use Rattle.safe.specs.Possible.{possible, Impossible, own_itself, own_root, control_root, control_plain}
use Rattle.safe.specs.Runs.{safe_by}
use Rattle.safe.specs.Impossible.{impossible_unheld}

-- The test names these targets and no other.
pub impossible_test : (s : ℕ) (o : Name) (x : Right) → Impossible s o x → possible s o x ≡ false
impossible_test s o x (own_itself e q) = rw (e, q, eqb_same s) refl
impossible_test s o x (own_root e q) = rw (e, q) (fails (not (eqb U s) && false) (λ h. false≢true (and_right (not (eqb U s)) false h)))
impossible_test s o x (control_root e q d) = rw (e, q) (ne_eqb s U d)
impossible_test s o x (control_plain a e q) = rw (e, q) refl

pub test_impossible : (s : ℕ) (o : Name) (x : Right) → possible s o x ≡ false → Impossible s o x
test_impossible s (Plain a) Own h = absurd (clash refl h)
test_impossible s (Subject a) Own h =
    ⊎_elim (λ e. own_itself refl (ap (λ (n : ℕ). Subject n) (eqb-true a s e)))
    (λ e. let top : not (eqb a U) ≡ false = rw e at h in own_root refl (ap (λ (n : ℕ). Subject n) (eqb-true a U (not-false (eqb a U) top))))
    (way (eqb a s))
test_impossible s (Plain a) Control h = control_plain a refl refl
test_impossible s (Subject a) Control h =
    let top = or_none_left (not (eqb a U)) (eqb s U) h in
    control_root refl (ap (λ (n : ℕ). Subject n) (eqb-true a U (not-false (eqb a U) top))) (eqb-false s U (or_none_right (not (eqb a U)) (eqb s U) h))
test_impossible s (Plain a) (Basic k f) h = absurd (clash refl h)
test_impossible s (Subject a) (Basic k f) h = absurd (clash refl h)

pub impossible_safe : (basics : ℕ) (S : State) (trusted : ℕ → Bool) (s : ℕ) (o : Name) (x : Right) → Valid S
    → possible s o x ≡ false → Safe basics S trusted s o x
impossible_safe basics S trusted s o x v h =
    safe_by basics S trusted s o x Valid v (λ T c begun w. keeps basics true T c w) (λ T w. impossible_unheld w s o x (test_impossible s o x h))
