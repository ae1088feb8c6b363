-- The steps of the loops that clear a column and a row.
use Rattle.std.specs.Prelude.{ℕ, ◌+◌, ◌<◌, ◌≡◌, refl, Bool, true, false, cond, ◌&&◌, ◌||◌, List, eqb}
use Rattle.std.proofs.Common.{add-one, sym, ◌∙◌, ap, subst}
use Rattle.matrix.specs.declared.Name.{Name}
use Rattle.matrix.specs.declared.Shape.{Shape}
use Rattle.matrix.specs.Bounded.{any}
use Rattle.matrix.specs.Names.{same_name, name_of, column_of, named}
use Rattle.matrix.specs.State.{State, has, is_cell, clear}
use Rattle.matrix.specs.Shape.{shape_of, columns}
use Rattle.matrix.specs.Reading.{set_cell, state_of}
use Rattle.matrix.specs.Shaped.{Within}
use Rattle.matrix.specs.Changes.{in_column}
use Rattle.laws.specs.Same.{eqb_same, same_name_refl}
use Rattle.laws.specs.Bounded.{any_hit}
use Rattle.codec.specs.Columns.{name_of_column_of, named_below, same_state, has_clear}
use Rattle.codec.specs.RoundTrip.{within_read}
use Rattle.cells.specs.Station.{Station, Cell}
use Rattle.bits.specs.Became.{Became}
use Rattle.bits.specs.Passed.{first_rows, first_columns, column_part, row_part, in_row}
use Rattle.bits.specs.Steps.{became_same, became_then, became_as, became_clear}

-- ---- rows and columns that are passed

pub rows_none : (w : ℕ) → first_rows 0 w ≡ false
unfolding first_rows any
rows_none w = refl

pub rows_next : (r w : ℕ) → first_rows (r + 1) w ≡ (first_rows r w || eqb w r)
unfolding first_rows any
rows_next r w = rw add-one refl

pub rows_all : (n w : ℕ) → w < n → first_rows n w ≡ true
unfolding first_rows
rows_all n w h = any_hit n (λ d. eqb w d) w h (eqb_same w)

pub columns_none : (n : ℕ) (x : Name) → first_columns n 0 x ≡ false
unfolding first_columns any
columns_none n x = refl

pub columns_next : (n c : ℕ) (x : Name) → first_columns n (c + 1) x ≡ (first_columns n c x || same_name x (name_of n c))
unfolding first_columns any
columns_next n c x = rw add-one refl

pub columns_all : (n p : ℕ) (x : Name) → named n p x ≡ true → first_columns n (n + p) x ≡ true
unfolding first_columns
columns_all n p x h =
    any_hit (n + p) (λ d. same_name x (name_of n d)) (column_of x) (named_below n p x h)
    (subst (λ (z : Name). same_name x z ≡ true) (sym (name_of_column_of n p x h)) (same_name_refl x))

-- ---- cleared cells

-- cells cleared twice, and cells named otherwise
pub clear_clear : (f g : ℕ → Name → Bool) (S : State) → clear g (clear f S) ≡ clear (λ w x. f w x || g w x) S
clear_clear f g S =
    same_state (clear g (clear f S)) (clear (λ w x. f w x || g w x) S) refl
    (λ y w x. has_clear g (clear f S) y w x ∙ ap (cond (g w x) false) (has_clear f S y w x) ∙ either (f w x) (g w x) (has S y w x)
    ∙ sym (has_clear (λ w x. f w x || g w x) S y w x))
  where
    either : (t u a : Bool) → cond u false (cond t false a) ≡ cond (t || u) false a
    either true true a = refl
    either true false a = refl
    either false true a = refl
    either false false a = refl

pub clear_same : (f g : ℕ → Name → Bool) (S : State) → ((w : ℕ) (x : Name) → f w x ≡ g w x) → clear f S ≡ clear g S
clear_same f g S h = ap (λ (e : ℕ → Name → Bool). clear e S) (λ i w x. h w x i)

-- in a state within a shape only the shape's cells matter
pub clear_within : (k : Shape) (f g : ℕ → Name → Bool) (S : State) → Within k S
    → ((w : ℕ) (x : Name) → w < k.n → named k.n k.p x ≡ true → f w x ≡ g w x) → clear f S ≡ clear g S
clear_within k f g S i h =
    same_state (clear f S) (clear g S) refl
    (λ y w x. has_clear f S y w x ∙ by (f w x) (g w x) (has S y w x) (λ e. h w x (i.row y w x e) (i.column y w x e)) ∙ sym (has_clear g S y w x))
  where
    by : (t u a : Bool) → (a ≡ true → t ≡ u) → cond t false a ≡ cond u false a
    by t u true h = ap (λ (z : Bool). cond z false true) (h refl)
    by true true false h = refl
    by true false false h = refl
    by false true false h = refl
    by false false false h = refl

-- nothing is cleared
clear_none : (f : ℕ → Name → Bool) (S : State) → ((w : ℕ) (x : Name) → f w x ≡ false) → S ≡ clear f S
clear_none f S h = same_state S (clear f S) refl (λ y w x. sym (has_clear f S y w x ∙ ap (λ (t : Bool). cond t false (has S y w x)) (h w x)))

-- one more cell becomes 0
cleared_more : {b₀ b b' : List ℕ} {k : Shape} {r c : ℕ} (f g : ℕ → Name → Bool) → Became b₀ b (clear f (state_of b₀)) → Cell b k r c
    → b' ≡ set_cell b r c 0 → ((w : ℕ) (x : Name) → (f w x || is_cell r (name_of k.n c) w x) ≡ g w x) → Became b₀ b' (clear g (state_of b₀))
cleared_more {b₀} {k = k} {r = r} {c = c} f g h l e s =
    became_as (became_then (clear (λ w x. is_cell r (name_of k.n c) w x)) h (became_clear l e))
    (clear_clear f (λ w x. is_cell r (name_of k.n c) w x) (state_of b₀)
    ∙ clear_same (λ w x. f w x || is_cell r (name_of k.n c) w x) g (state_of b₀) s)

-- all the record's cells that are named are cleared
cleared_all : {b₀ b : List ℕ} {k : Shape} (f g : ℕ → Name → Bool) → Station b₀ k → Became b₀ b (clear f (state_of b₀))
    → ((w : ℕ) (x : Name) → w < k.n → named k.n k.p x ≡ true → f w x ≡ g w x) → Became b₀ b (clear g (state_of b₀))
cleared_all {b₀} f g s h e =
    became_as h
    (clear_within (shape_of b₀) f g (state_of b₀) (within_read b₀)
    (λ w x l k. e w x (rw s.shape l) (rw s.shape k)))

-- a column, from row 0 on
module _ {b₀ : List ℕ} {f : Shape} (c : ℕ) where
  pub column_none : Station b₀ f → Became b₀ b₀ (clear (column_part f.n c 0) (state_of b₀))
  column_none s =
      became_as (became_same s)
      (clear_none (column_part f.n c 0) (state_of b₀) (λ w x. ap (λ (t : Bool). t && same_name x (name_of f.n c)) (rows_none w)))

  pub column_next : {b b' : List ℕ} {r : ℕ} → Became b₀ b (clear (column_part f.n c r) (state_of b₀)) → Cell b f r c → b' ≡ set_cell b r c 0
      → Became b₀ b' (clear (column_part f.n c (r + 1)) (state_of b₀))
  column_next {r = r} h l e =
      cleared_more (column_part f.n c r) (column_part f.n c (r + 1)) h l e
      (λ w x. by (first_rows r w) (eqb w r) (same_name x (name_of f.n c)) ∙ ap (λ (t : Bool). t && same_name x (name_of f.n c)) (sym (rows_next r w)))
    where
      by : (t u a : Bool) → (t && a || a && u) ≡ ((t || u) && a)
      by true u true = refl
      by true u false = refl
      by false true true = refl
      by false false true = refl
      by false true false = refl
      by false false false = refl

  pub column_all : {b : List ℕ} {r : ℕ} → Station b₀ f → r ≡ f.n → Became b₀ b (clear (column_part f.n c r) (state_of b₀))
      → Became b₀ b (clear (in_column (name_of f.n c)) (state_of b₀))
  column_all {r = r} s e h =
      cleared_all (column_part f.n c r) (in_column (name_of f.n c)) s h
      (λ w x l k. ap (λ (t : Bool). t && same_name x (name_of f.n c)) (ap (λ (m : ℕ). first_rows m w) e ∙ rows_all f.n w l))

-- a row, from column 0 on
module _ {b₀ : List ℕ} {f : Shape} (r : ℕ) where
  pub row_none : Station b₀ f → Became b₀ b₀ (clear (row_part f.n r 0) (state_of b₀))
  row_none s =
      became_as (became_same s)
      (clear_none (row_part f.n r 0) (state_of b₀) (λ w x. ap (λ (t : Bool). eqb w r && t) (columns_none f.n x) ∙ by (eqb w r)))
    where
      by : (t : Bool) → (t && false) ≡ false
      by true = refl
      by false = refl

  pub row_next : {b b' : List ℕ} {c : ℕ} → Became b₀ b (clear (row_part f.n r c) (state_of b₀)) → Cell b f r c → b' ≡ set_cell b r c 0
      → Became b₀ b' (clear (row_part f.n r (c + 1)) (state_of b₀))
  row_next {c = c} h l e =
      cleared_more (row_part f.n r c) (row_part f.n r (c + 1)) h l e
      (λ w x. by (eqb w r) (first_columns f.n c x) (same_name x (name_of f.n c)) ∙ ap (λ (t : Bool). eqb w r && t) (sym (columns_next f.n c x)))
    where
      by : (t u a : Bool) → (t && u || a && t) ≡ (t && (u || a))
      by true true a = refl
      by true false true = refl
      by true false false = refl
      by false u true = refl
      by false u false = refl

  pub row_all : {b : List ℕ} {c : ℕ} → Station b₀ f → c ≡ columns f → Became b₀ b (clear (row_part f.n r c) (state_of b₀))
      → Became b₀ b (clear (in_row r) (state_of b₀))
  row_all {c = c} s e h =
      cleared_all (row_part f.n r c) (in_row r) s h
      (λ w x l k. ap (λ (t : Bool). eqb w r && t) (ap (λ (m : ℕ). first_columns f.n m x) e ∙ columns_all f.n f.p x k) ∙ by (eqb w r))
    where
      by : (t : Bool) → (t && true) ≡ t
      by true = refl
      by false = refl
