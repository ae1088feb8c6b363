-- What the changed bits of a matrix tell of the bits before.
use Rattle.std.specs.Prelude.{ℕ, ◌≡◌, refl, ◌⊎◌, Bool, true, false}
use Rattle.std.proofs.Common.{inl, inr, ⊎_elim}
use Rattle.std.proofs.lemmas.Bool.{false≢true}
use Rattle.matrix.specs.declared.Name.{Name}
use Rattle.matrix.specs.State.{is_cell, put_matrix, clear_matrix}
use Rattle.laws.specs.Tests.{way, cond_cases}
use Rattle.laws.specs.Same.{is_cell_same, is_cell_row, is_cell_column}

-- a test for each row and column
abbrev pub Matrix : Type 0
Matrix = ℕ → Name → Bool

-- a matrix with one bit changed
pub put_cases : (r : ℕ) (c : Name) (v : Bool) (m : Matrix) (w : ℕ) (x : Name) → put_matrix r c v m w x ≡ true
    → ((is_cell r c w x ≡ true) × (v ≡ true)) ⊎ ((is_cell r c w x ≡ false) × (m w x ≡ true))
put_cases r c v m w x h = cond_cases (is_cell r c w x) v (m w x) h

pub put_found : (r : ℕ) (c : Name) (v : Bool) (m : Matrix) (w : ℕ) (x : Name) → put_matrix r c v m w x ≡ true
    → (m w x ≡ true) ⊎ ((w ≡ r) × (x ≡ c))
put_found r c v m w x h =
    ⊎_elim (λ p. inr (is_cell_row r c w x p.0, is_cell_column r c w x p.0)) (λ p. inl p.1) (put_cases r c v m w x h)

pub put_new : (r : ℕ) (c : Name) (m : Matrix) → put_matrix r c true m r c ≡ true
put_new r c m = rw (is_cell_same r c) refl

pub put_other : (r : ℕ) (c : Name) (v : Bool) (m : Matrix) (w : ℕ) (x : Name) → is_cell r c w x ≡ false → m w x ≡ true
    → put_matrix r c v m w x ≡ true
put_other r c v m w x e h = rw e h

pub put_keeps : (r : ℕ) (c : Name) (m : Matrix) (w : ℕ) (x : Name) → m w x ≡ true → put_matrix r c true m w x ≡ true
put_keeps r c m w x h = ⊎_elim (λ e. rw e refl) (λ e. rw e h) (way (is_cell r c w x))

-- a matrix with some cells cleared
pub clear_found : (gone m : Matrix) (w : ℕ) (x : Name) → clear_matrix gone m w x ≡ true → (gone w x ≡ false) × (m w x ≡ true)
clear_found gone m w x h = ⊎_elim (λ p. absurd (false≢true p.1)) (λ p. p) (cond_cases (gone w x) false (m w x) h)

pub clear_other : (gone m : Matrix) (w : ℕ) (x : Name) → gone w x ≡ false → m w x ≡ true → clear_matrix gone m w x ≡ true
clear_other gone m w x e h = rw e h
