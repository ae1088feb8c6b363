-- The steps of the loop by which i gains own over all that s owns.
use Rattle.std.specs.Prelude.{ℕ, ◌+◌, ◌-◌, ◌*◌, ◌/◌, ◌%◌, ◌<◌, ◌≡◌, refl, Bool, true, false, cond, ◌&&◌, ◌||◌, List, eqb, get_or, set}
use Rattle.std.proofs.Common.{arith, sym, ◌∙◌, ap, ⊎_elim, eqb-true}
use Rattle.std.proofs.lemmas.Bool.{eqb-false}
use Rattle.matrix.specs.declared.Name.{Name}
use Rattle.matrix.specs.declared.Right.TheVariants.{Own}
use Rattle.matrix.specs.declared.Shape.{Shape}
use Rattle.matrix.specs.Names.{same_name, name_of, named}
use Rattle.matrix.specs.State.{State, put}
use Rattle.matrix.specs.Bytes.{bit}
use Rattle.matrix.specs.Shape.{shape_of, columns, cell_place, bits_of}
use Rattle.matrix.specs.Reading.{cell_at, state_of}
use Rattle.matrix.specs.Changes.{inherit}
use Rattle.laws.specs.Same.{same_name_eq}
use Rattle.laws.specs.Tests.{way}
use Rattle.codec.specs.Numbers.{set_same}
use Rattle.codec.specs.ShapeRight.{TwoOrFour}
use Rattle.codec.proofs.ShapeRight.{two_or_four}
use Rattle.codec.specs.Update.{bit_read}
use Rattle.codec.specs.RoundTrip.{within_read}
use Rattle.cells.specs.Station.{Station, Cell, right_shape}
use Rattle.cells.specs.Places.{row_bytes, low_place, bit_place}
use Rattle.states.specs.Reads.{code_in}
use Rattle.bits.specs.Became.{Became}
use Rattle.bits.specs.Passed.{first_columns, inherit_part}
use Rattle.bits.specs.OwnBytes.{own_joined, same_cell, next_cell, last_place, column_below, columns_passed, own_read}
use Rattle.bits.specs.Steps.{became_same, became_then, became_as, became_at, became_put, cell_after, cell_row, cell_column}
use Rattle.bits.specs.Loops.{columns_none, columns_next, columns_all}

-- a state with another matrix of owners
abbrev with_owns : (ℕ → Name → Bool) → State → State
with_owns f S = record { top = S.top; owns = f; controls = S.controls; basic = S.basic }

owns_same : (f g : ℕ → Name → Bool) (S : State) → ((w : ℕ) (x : Name) → f w x ≡ g w x) → with_owns f S ≡ with_owns g S
owns_same f g S h = ap (λ (e : ℕ → Name → Bool). with_owns e S) (λ i w x. h w x i)

module _ (n i s : ℕ) (S : State) where
  part_none : S ≡ inherit_part n i s 0 S
  part_none =
      owns_same S.owns (inherit_part n i s 0 S).owns S
      (λ w x. sym (ap (λ (t : Bool). S.owns w x || eqb w i && t && S.owns s x) (columns_none n x) ∙ by (S.owns w x) (eqb w i) (S.owns s x)))
    where
      by : (o e a : Bool) → (o || e && false && a) ≡ o
      by true e a = refl
      by false true a = refl
      by false false a = refl

  -- s owns the next column's name, or does not
  part_hit : (c : ℕ) → S.owns s (name_of n c) ≡ true → put Own i (name_of n c) true (inherit_part n i s c S) ≡ inherit_part n i s (c + 1) S
  part_hit c h =
      owns_same (put Own i (name_of n c) true (inherit_part n i s c S)).owns (inherit_part n i s (c + 1) S).owns S
      (λ w x. by (same_name x (name_of n c)) (eqb w i) (S.owns w x) (first_columns n c x) (S.owns s x)
      (λ e. ap (S.owns s) (same_name_eq x (name_of n c) e) ∙ h)
      ∙ ap (λ (t : Bool). S.owns w x || eqb w i && t && S.owns s x) (sym (columns_next n c x)))
    where
      by : (m e o t a : Bool) → (m ≡ true → a ≡ true) → cond (m && e) true (o || e && t && a) ≡ (o || e && (t || m) && a)
      by true true true t a h = refl
      by true true false true a h = sym (h refl)
      by true true false false a h = sym (h refl)
      by true false o t a h = refl
      by false e o true a h = refl
      by false e o false a h = refl

  part_miss : (c : ℕ) → S.owns s (name_of n c) ≡ false → inherit_part n i s c S ≡ inherit_part n i s (c + 1) S
  part_miss c h =
      owns_same (inherit_part n i s c S).owns (inherit_part n i s (c + 1) S).owns S
      (λ w x. by (same_name x (name_of n c)) (eqb w i) (S.owns w x) (first_columns n c x) (S.owns s x)
      (λ e. ap (S.owns s) (same_name_eq x (name_of n c) e) ∙ h)
      ∙ ap (λ (t : Bool). S.owns w x || eqb w i && t && S.owns s x) (sym (columns_next n c x)))
    where
      by : (m e o t a : Bool) → (m ≡ true → a ≡ false) → (o || e && t && a) ≡ (o || e && (t || m) && a)
      by m e o true a h = refl
      by true true true false a h = refl
      by true true false false a h = sym (h refl)
      by true false o false a h = refl
      by false e o false a h = refl

  -- s owns only names of the record
  part_all : (p : ℕ) → ((x : Name) → S.owns s x ≡ true → named n p x ≡ true) → inherit_part n i s (n + p) S ≡ inherit i s S
  part_all p h =
      owns_same (inherit_part n i s (n + p) S).owns (inherit i s S).owns S
      (λ w x. by (first_columns n (n + p) x) (eqb w i) (S.owns w x) (S.owns s x) (λ e. columns_all n p x (h x e)))
    where
      by : (t e o a : Bool) → (a ≡ true → t ≡ true) → (o || e && t && a) ≡ (o || e && a)
      by true true o a h = refl
      by true false o a h = refl
      by false true o true h = ap (λ (t : Bool). o || t) (h refl)
      by false true o false h = refl
      by false false o a h = refl

module _ {b₀ : List ℕ} {f : Shape} (i s : ℕ) where
  pub inherit_none : Station b₀ f → Became b₀ b₀ (inherit_part (shape_of b₀).n i s (0 / f.width) (state_of b₀))
  inherit_none h =
      let e : 0 / f.width ≡ 0 = columns_passed f.width 0 (two_or_four f (right_shape h)) 0 (omega arith) in
      became_as (became_same h) (part_none (shape_of b₀).n i s (state_of b₀) ∙ ap (λ (m : ℕ). inherit_part (shape_of b₀).n i s m (state_of b₀)) (sym e))

  -- the test of the bit of own in the cell of s in column c
  owns_read : {b : List ℕ} {c v : ℕ} {t : Bool} → Became b₀ b (inherit_part (shape_of b₀).n i s c (state_of b₀)) → Cell b f s c → v ≡ cell_at b s c → t ≡ bit 0 v
      → (state_of b₀).owns s (name_of (shape_of b₀).n c) ≡ t
  owns_read {b} {c} h l e g =
      sym
      (g ∙ ap (bit 0) e ∙ sym (bit_read b s c (cell_row l) (cell_column l) Own room)
      ∙ ap (λ (e : Shape). (state_of b).owns s (name_of e.n c)) h.shape ∙ ap (λ (S : State). S.owns s (name_of (shape_of b₀).n c)) h.state
      ∙ by ((state_of b₀).owns s (name_of (shape_of b₀).n c)) (eqb s i && first_columns (shape_of b₀).n c (name_of (shape_of b₀).n c)))
    where
      room : 0 < bits_of (shape_of b)
      room = rw (← l.station.shape) (code_in f (right_shape l.station) Own tt)

      by : (o t : Bool) → (o || t && o) ≡ o
      by true t = refl
      by false true = refl
      by false false = refl

  -- one more byte of row i is joined with that of row s
  pub inherit_byte : {b b' : List ℕ} {k to from u : ℕ} → Station b₀ f → Became b₀ b (inherit_part (shape_of b₀).n i s (k / f.width) (state_of b₀)) → i < f.n → s < f.n
      → k < row_bytes f → to ≡ cell_place f i 0 + k → from ≡ cell_place f s 0 + k → u ≡ own_joined f.width (get_or b to 0) (get_or b from 0) k → b' ≡ set b to u
      → Became b₀ b' (inherit_part (shape_of b₀).n i s ((k + 1) / f.width) (state_of b₀))
  inherit_byte {b} {b'} {k} {to} {from} st h hi hs more e d g w = ⊎_elim last other (way (eqb (k % f.width) (f.width - 1)))
    where
      wide : TwoOrFour f.width
      wide = two_or_four f (right_shape st)

      col : ℕ
      col = k / f.width

      -- a byte that stays
      kept : own_joined f.width (get_or b to 0) (get_or b from 0) k ≡ get_or b to 0 → b' ≡ b
      kept q = w ∙ ap (set b to) (g ∙ q) ∙ set_same b to

      passed : {l : List ℕ} {m : ℕ} → m ≡ (k + 1) / f.width → Became b₀ l (inherit_part (shape_of b₀).n i s m (state_of b₀)) → Became b₀ l (inherit_part (shape_of b₀).n i s ((k + 1) / f.width) (state_of b₀))
      passed q a = became_as a (ap (λ (m : ℕ). inherit_part (shape_of b₀).n i s m (state_of b₀)) q)

      other : eqb (k % f.width) (f.width - 1) ≡ false → Became b₀ b' (inherit_part (shape_of b₀).n i s ((k + 1) / f.width) (state_of b₀))
      other t = became_at (kept (rw t refl)) (passed (same_cell f.width k wide (eqb-false (k % f.width) (f.width - 1) t)) h)

      last : eqb (k % f.width) (f.width - 1) ≡ true → Became b₀ b' (inherit_part (shape_of b₀).n i s ((k + 1) / f.width) (state_of b₀))
      last t =
          let at = eqb-true (k % f.width) (f.width - 1) t in
          let q : col + 1 ≡ (k + 1) / f.width = next_cell f.width k wide at in
          let to_place : to ≡ low_place f i col = e ∙ last_place f.width k wide f.first (i * columns f) at in
          let to_byte : to ≡ bit_place f i col 0 = to_place ∙ omega arith in
          let from_place : from ≡ low_place f s col = d ∙ last_place f.width k wide f.first (s * columns f) at in
          let column : col < columns f = column_below f.width k wide (columns f) more in
          let to_cell : Cell b f i col = cell_after st h hi column in
          let from_cell : Cell b f s col = cell_after st h hs column in
          let read : (state_of b₀).owns s (name_of (shape_of b₀).n col) ≡ bit 0 (get_or b from 0) = owns_read h from_cell refl (sym (own_read from_cell.station s col ∙ ap (λ (m : ℕ). bit 0 (get_or b m 0)) (sym from_place))) in
          ⊎_elim
          (λ (y : bit 0 (get_or b from 0) ≡ true).
          passed q (became_as (became_then (put Own i (name_of (shape_of b₀).n col) true) h (became_as (became_put Own true to_cell tt refl to_byte (g ∙ rw (t, y) refl) w) (ap (λ (e : Shape). put Own i (name_of e.n col) true (state_of b)) st.shape))) (part_hit (shape_of b₀).n i s (state_of b₀) col (read ∙ y))))
          (λ (y : bit 0 (get_or b from 0) ≡ false). became_at (kept (rw (t, y) refl)) (passed q (became_as h (part_miss (shape_of b₀).n i s (state_of b₀) col (read ∙ y)))))
          (way (bit 0 (get_or b from 0)))

  -- all bytes of the row are
  pub inherit_all : {b : List ℕ} {k : ℕ} → Station b₀ f → k ≡ row_bytes f → Became b₀ b (inherit_part (shape_of b₀).n i s (k / f.width) (state_of b₀))
      → Became b₀ b (inherit i s (state_of b₀))
  inherit_all {k = k} h e g =
      became_as g
      (ap (λ (m : ℕ). inherit_part (shape_of b₀).n i s m (state_of b₀)) (columns_passed f.width k (two_or_four f (right_shape h)) (columns f) e ∙ ap columns h.shape)
      ∙ part_all (shape_of b₀).n i s (state_of b₀) (shape_of b₀).p (λ x g. (within_read b₀).column Own s x g))
