-- `top` is a device: in a valid state a search below `top` is one over all names.
use Rattle.std.specs.Prelude.{ℕ, ◌<◌, ◌≡◌, refl, ◌↔◌, ◌≢◌, true, not, ◌&&◌}
use Rattle.std.proofs.Common.{sym, subst}
use Rattle.std.proofs.lemmas.Bool.{not-true}
use Rattle.matrix.specs.declared.Name.{Name}
use Rattle.matrix.specs.declared.Name.TheVariants.{Subject, Plain}
use Rattle.matrix.specs.declared.Right.{Right}
use Rattle.matrix.specs.declared.Right.TheVariants.{Own, Control}
use Rattle.matrix.specs.Names.{same_name}
use Rattle.matrix.specs.State.{State, has, exists_name}
use Rattle.matrix.specs.Owners.{owner_of}
use Rattle.matrix.specs.Valid.{Valid}
use Rattle.matrix.specs.Tests.{other_controller}
use Rattle.laws.specs.Tests.{clash, and_left, and_right, and_both}
use Rattle.laws.specs.Same.{same_name_refl, same_name_ne}
use Rattle.laws.specs.Bounded.{any_hit, any_found}
use Rattle.owners.specs.Framed.{valid_framed, owner_same}

-- a row with a set bit is below `top`
pub row_below : {S : State} → Valid S → (y : Right) (w : ℕ) (x : Name) → has S y w x ≡ true → w < S.top
row_below v y w x h = v.bound w (v.row y w x h)

-- a plain object exists exactly where some subject, of any number, owns it (Manual 3.1)
pub object_exists : {S : State} → Valid S → (o : ℕ) → (exists_name S (Plain o) ≡ true) ↔ ((w : ℕ) × (S.owns w (Plain o) ≡ true))
object_exists {S} v o = (found, there)
  where
    found : exists_name S (Plain o) ≡ true → (w : ℕ) × (S.owns w (Plain o) ≡ true)
    found h = let f = any_found S.top (λ w. S.owns w (Plain o)) h in (f.0, f.2)

    there : (w : ℕ) × (S.owns w (Plain o) ≡ true) → exists_name S (Plain o) ≡ true
    there f = any_hit S.top (λ w. S.owns w (Plain o)) f.0 (row_below v Own f.0 (Plain o) f.1) f.1

-- the owner that the walk follows is the owner
pub owner_found : {S : State} → Valid S → (w s : ℕ) → S.owns w (Subject s) ≡ true → owner_of S.top S.owns s ≡ w
owner_found v w s h = sym (owner_same (valid_framed v) w s h)

-- another controller is found exactly where some subject, of any number, is one (Manual 5.2, code 6)
pub controller_found : {S : State} → Valid S → (x : Name) → (other_controller S x ≡ true) ↔ ((w : ℕ) × (S.controls w x ≡ true) × (Subject w ≢ x))
controller_found {S} v x = (found, there)
  where
    found : other_controller S x ≡ true → (w : ℕ) × (S.controls w x ≡ true) × (Subject w ≢ x)
    found h =
        let f = any_found S.top (λ w. S.controls w x && not (same_name (Subject w) x)) h in
        let w = f.0 in
        let differs = not-true (same_name (Subject w) x) (and_right (S.controls w x) (not (same_name (Subject w) x)) f.2) in
        (w, and_left (S.controls w x) (not (same_name (Subject w) x)) f.2, λ e. clash (subst (λ (y : Name). same_name (Subject w) y ≡ true) e (same_name_refl (Subject w))) differs)

    there : (w : ℕ) × (S.controls w x ≡ true) × (Subject w ≢ x) → other_controller S x ≡ true
    there f =
        let w = f.0 in
        let differs : not (same_name (Subject w) x) ≡ true = rw (same_name_ne (Subject w) x f.2) refl in
        any_hit S.top (λ w. S.controls w x && not (same_name (Subject w) x)) w (row_below v Control w x f.1) (and_both f.1 differs)
