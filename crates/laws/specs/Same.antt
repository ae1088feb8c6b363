-- The tests of sameness are equality.
use Rattle.std.specs.Prelude.{ℕ, ◌≡◌, refl, true, false, eqb}
use Rattle.std.proofs.Common.{ap, eqb-true, eq-eqb}
use Rattle.std.proofs.lemmas.Bool.{false≢true}
use Rattle.matrix.specs.declared.Name.{Name}
use Rattle.matrix.specs.declared.Name.TheVariants.{Subject, Plain}
use Rattle.matrix.specs.declared.Form.{Form}
use Rattle.matrix.specs.declared.Form.TheVariants.{Plain as Unstarred, Starred}
use Rattle.matrix.specs.declared.Right.{Right}
use Rattle.matrix.specs.declared.Right.TheVariants.{Own, Control, Basic}
use Rattle.matrix.specs.Names.{same_name}
use Rattle.matrix.specs.Rights.{same_form}
use Rattle.matrix.specs.State.{is_cell}
use Rattle.matrix.specs.Touched.{same_right, is_bit}
use Rattle.laws.specs.Tests.{fails, and_left, and_right, and_both}

pub eqb_same : (a : ℕ) → eqb a a ≡ true
eqb_same a = eq-eqb a a refl

-- names
pub same_name_refl : (x : Name) → same_name x x ≡ true
same_name_refl (Subject a) = eqb_same a
same_name_refl (Plain a) = eqb_same a

pub same_name_eq : (x y : Name) → same_name x y ≡ true → x ≡ y
same_name_eq (Subject a) (Subject b) h = ap (λ (n : ℕ). Subject n) (eqb-true a b h)
same_name_eq (Subject a) (Plain b) h = absurd (false≢true h)
same_name_eq (Plain a) (Subject b) h = absurd (false≢true h)
same_name_eq (Plain a) (Plain b) h = ap (λ (n : ℕ). Plain n) (eqb-true a b h)

pub same_name_ne : (x y : Name) → (x ≡ y → ⊥) → same_name x y ≡ false
same_name_ne x y h = fails (same_name x y) (λ e. h (same_name_eq x y e))

-- forms and rights
pub same_form_refl : (f : Form) → same_form f f ≡ true
same_form_refl Unstarred = refl
same_form_refl Starred = refl

pub same_form_eq : (g f : Form) → same_form g f ≡ true → g ≡ f
same_form_eq Unstarred Unstarred h = refl
same_form_eq Unstarred Starred h = absurd (false≢true h)
same_form_eq Starred Unstarred h = absurd (false≢true h)
same_form_eq Starred Starred h = refl

pub same_right_refl : (y : Right) → same_right y y ≡ true
same_right_refl Own = refl
same_right_refl Control = refl
same_right_refl (Basic k f) = and_both (eqb_same k) (same_form_refl f)

pub same_right_eq : (z y : Right) → same_right z y ≡ true → z ≡ y
same_right_eq Own Own h = refl
same_right_eq Own Control h = absurd (false≢true h)
same_right_eq Own (Basic k f) h = absurd (false≢true h)
same_right_eq Control Own h = absurd (false≢true h)
same_right_eq Control Control h = refl
same_right_eq Control (Basic k f) h = absurd (false≢true h)
same_right_eq (Basic j g) Own h = absurd (false≢true h)
same_right_eq (Basic j g) Control h = absurd (false≢true h)
same_right_eq (Basic j g) (Basic k f) h =
    let e : j ≡ k = eqb-true j k (and_left (eqb j k) (same_form g f) h) in
    let q : g ≡ f = same_form_eq g f (and_right (eqb j k) (same_form g f) h) in
    rw (e, q) refl

-- a cell is the one of its row and column, and no cell of another column
pub is_cell_same : (r : ℕ) (c : Name) → is_cell r c r c ≡ true
is_cell_same r c = and_both (same_name_refl c) (eqb_same r)

pub is_cell_at : (r : ℕ) (c : Name) (w : ℕ) (x : Name) → w ≡ r → x ≡ c → is_cell r c w x ≡ true
is_cell_at r c w x e q = rw (e, q) (is_cell_same r c)

pub is_cell_row : (r : ℕ) (c : Name) (w : ℕ) (x : Name) → is_cell r c w x ≡ true → w ≡ r
is_cell_row r c w x h = eqb-true w r (and_right (same_name x c) (eqb w r) h)

pub is_cell_column : (r : ℕ) (c : Name) (w : ℕ) (x : Name) → is_cell r c w x ≡ true → x ≡ c
is_cell_column r c w x h = same_name_eq x c (and_left (same_name x c) (eqb w r) h)

pub is_cell_apart : (r : ℕ) (c : Name) (w : ℕ) (x : Name) → (x ≡ c → ⊥) → is_cell r c w x ≡ false
is_cell_apart r c w x d = fails (is_cell r c w x) (λ e. d (is_cell_column r c w x e))

-- a bit is the one of its right, row and column
pub is_bit_eq : (y : Right) (r : ℕ) (c : Name) (z : Right) (w : ℕ) (x : Name) → is_bit y r c z w x ≡ true → (z ≡ y) × (w ≡ r) × (x ≡ c)
is_bit_eq y r c z w x h =
    let cell = and_right (same_right z y) (is_cell r c w x) h in
    (same_right_eq z y (and_left (same_right z y) (is_cell r c w x) h), is_cell_row r c w x cell, is_cell_column r c w x cell)
