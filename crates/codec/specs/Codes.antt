-- A right and its code determine each other.
use Rattle.std.specs.Prelude.{ℕ, zero, suc, ◌+◌, ◌-◌, ◌*◌, ◌/◌, ◌%◌, ◌<◌, ◌≡◌, refl, true, false, cond, eqb}
use Rattle.std.proofs.Common.{arith, sym, ◌∙◌, ap, subst, ⊎_elim, eqb-true, eq-eqb, ne_eqb}
use Rattle.std.proofs.lemmas.Bool.{eqb-false}
use Rattle.matrix.specs.declared.Form.{Form}
use Rattle.matrix.specs.declared.Form.TheVariants.{Plain, Starred}
use Rattle.matrix.specs.declared.Right.{Right}
use Rattle.matrix.specs.declared.Right.TheVariants.{Own, Control, Basic}
use Rattle.matrix.specs.Rights.{code_of, right_of}
use Rattle.matrix.specs.Touched.{same_right}
use Rattle.laws.specs.Tests.{way, same_test}
use Rattle.laws.specs.Same.{same_right_refl, same_right_eq}

pub code_of_right_of : (j : ℕ) → code_of (right_of j) ≡ j
code_of_right_of zero = refl
code_of_right_of (suc zero) = refl
code_of_right_of (suc (suc j)) = ⊎_elim plain starred (way (eqb (j % 2) 0))
  where
    plain : eqb (j % 2) 0 ≡ true → code_of (right_of (suc (suc j))) ≡ suc (suc j)
    plain e = rw e (omega (arith, eqb-true (j % 2) 0 e))

    starred : eqb (j % 2) 0 ≡ false → code_of (right_of (suc (suc j))) ≡ suc (suc j)
    starred e = rw e (omega (arith, eqb-false (j % 2) 0 e))

-- the right of the number 2 more than m
right_of_two : (m : ℕ) → right_of (2 + m) ≡ Basic (m / 2) (cond (eqb (m % 2) 0) Plain Starred)
right_of_two m = let e : 2 + m ≡ suc (suc m) = omega arith in ap right_of e

pub right_of_code_of : (y : Right) → right_of (code_of y) ≡ y
right_of_code_of Own = refl
right_of_code_of Control = refl
right_of_code_of (Basic k Plain) =
    let e : 2 * k / 2 ≡ k = omega arith in
    let d : eqb (2 * k % 2) 0 ≡ true = eq-eqb (2 * k % 2) 0 (omega arith) in
    right_of_two (2 * k) ∙ rw (e, d) refl
right_of_code_of (Basic k Starred) =
    let s : 3 + 2 * k ≡ 2 + suc (2 * k) = omega arith in
    let e : suc (2 * k) / 2 ≡ k = omega arith in
    let d : eqb (suc (2 * k) % 2) 0 ≡ false = ne_eqb (suc (2 * k) % 2) 0 (omega arith) in
    ap right_of s ∙ right_of_two (suc (2 * k)) ∙ rw (e, d) refl

pub code_of_same : (y z : Right) → code_of y ≡ code_of z → y ≡ z
code_of_same y z h = sym (right_of_code_of y) ∙ ap right_of h ∙ right_of_code_of z

-- a cell of w bytes has room for the basic rights below 4 w - 1
pub code_of_room : (w k : ℕ) (f : Form) → k < 4 * w - 1 → code_of (Basic k f) < 8 * w
code_of_room w k Plain h = omega arith
code_of_room w k Starred h = omega arith

-- codes are the same where the rights are
pub code_of_test : (z y : Right) → eqb (code_of z) (code_of y) ≡ same_right z y
code_of_test z y =
    same_test (eqb (code_of z) (code_of y)) (same_right z y)
    (λ h. subst (λ (u : Right). same_right z u ≡ true) (code_of_same z y (eqb-true (code_of z) (code_of y) h)) (same_right_refl z))
    (λ h. eq-eqb (code_of z) (code_of y) (ap code_of (same_right_eq z y h)))
