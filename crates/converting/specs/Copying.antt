-- Cells copied one after another: none, one more, all.
use Rattle.std.specs.Prelude.{ℕ, ◌+◌, ◌*◌, ◌/◌, ◌%◌, ◌^◌, ◌<◌, ◌≡◌, List, length}
use Rattle.std.proofs.Common.{not-suc-le-zero, add-one, arith, sym, ◌∙◌, ap, ap₂, subst, ⊎_elim}
use Rattle.std.proofs.Math.Arith.{digits_lt, digits_div, digits_mod}
use Rattle.matrix.specs.declared.Shape.{Shape}
use Rattle.matrix.specs.Bytes.{number_at, set_number}
use Rattle.matrix.specs.Shape.{shape_of, bits_of, columns, size_of}
use Rattle.matrix.specs.Reading.{cell_at, set_cell, state_of, content, bytes_of}
use Rattle.matrix.specs.Shaped.{Within}
use Rattle.matrix.specs.Converting.{in_version}
use Rattle.laws.specs.Bounded.{below_suc}
use Rattle.codec.specs.ShapeRight.{ShapeRight}
use Rattle.codec.specs.Cells.{shape_set, shaped_set, octets_set, cell_set_other}
use Rattle.codec.proofs.Cells.{cell_set_same}
use Rattle.codec.specs.RoundTrip.{read_write}
use Rattle.codec.specs.InVersion.{own_version}
use Rattle.codec.specs.OtherShape.{cell_fits, cells_write}
use Rattle.cells.specs.Station.{Station, right_shape}
use Rattle.cell_words.specs.Wanted.{Wanted, same_n, same_p, same_columns, within_wanted}
use Rattle.cell_words.specs.Places.{cells_of, place_of, row_of, column_of, number_of, cell_numbered, store_numbered}
use Rattle.converting.specs.Needs.{Fits, Copied}

pub copied_none : {out : List ℕ} {g : Shape} (b : List ℕ) → Station out g → Copied b g out 0
copied_none b s = record { station = s; cells = λ r c l h. absurd (not-suc-le-zero h) }

-- the length stays
pub copied_length : {b out : List ℕ} {g : Shape} {k : ℕ} → Copied b g out k → length out ≡ size_of g
copied_length h = h.station.shaped.size ∙ ap size_of (sym h.station.shape)

module _ {b : List ℕ} {f g : Shape} (h : Fits b f g) where
  -- both have as many cells
  pub same_cells : cells_of g ≡ cells_of f
  same_cells = ap₂ (λ (n m : ℕ). n * m) (same_n h.wanted) (same_columns h.wanted)

  -- the cell of row r and column c stored
  copied_cell : (r c : ℕ) {out out' : List ℕ} → r < f.n → c < columns g → Copied b g out (r * columns g + c) → out' ≡ set_cell out r c (cell_at b r c)
      → Copied b g out' (r * columns g + c + 1)
  copied_cell r c {out} {out'} row column q d = record { station = station; cells = cells }
    where
      s : Station b f
      s = h.wanted.station

      shape : g ≡ shape_of out
      shape = q.station.shape

      v : ℕ
      v = cell_at b r c

      station : Station out' g
      station =
          record {
            shaped = rw d (shaped_set out r c v q.station.shaped);
            octets = rw d (octets_set out r c v q.station.octets);
            shape = shape ∙ sym (ap shape_of d ∙ shape_set out r c v);
          }

      below : (x : ℕ) → x < columns g → x < columns (shape_of out)
      below x l = subst (λ (m : Shape). x < columns m) shape l

      -- what is read fits
      fits : v < 2 ^ bits_of g
      fits =
          cell_fits b s.octets g (within_wanted h.wanted h.none) r c (subst (λ (m : Shape). r < m.n) s.shape row)
          (subst (λ (m : Shape). c < columns m) s.shape (subst (λ (m : ℕ). c < m) (same_columns h.wanted) column))

      here : cell_at out' r c ≡ v
      here =
          ap (λ (l : List ℕ). cell_at l r c) d
          ∙ cell_set_same out r c v q.station.shaped (subst (λ (m : Shape). r < m.n) shape (subst (λ (n : ℕ). r < n) (sym (same_n h.wanted)) row))
          (below c column) (subst (λ (m : Shape). v < 2 ^ bits_of m) shape fits)

      cells : (w x : ℕ) → x < columns g → w * columns g + x < r * columns g + c + 1 → cell_at out' w x ≡ cell_at b w x
      cells w x l m = ⊎_elim earlier last (below_suc (w * columns g + x) (r * columns g + c) (rw add-one at m))
        where
          earlier : w * columns g + x < r * columns g + c → cell_at out' w x ≡ cell_at b w x
          earlier z =
              ap (λ (y : List ℕ). cell_at y w x) d
              ∙ cell_set_other out r c v w x (below c column) (below x l)
              (λ i j. let y : r * columns g + c ≡ w * columns g + x = ap₂ (λ (a u : ℕ). a * columns g + u) i j in omega arith)
              ∙ q.cells w x l z

          last : w * columns g + x ≡ r * columns g + c → cell_at out' w x ≡ cell_at b w x
          last z =
              let i : w ≡ r = sym (digits_div w l) ∙ ap (λ (a : ℕ). a / columns g) z ∙ digits_div r column in
              let j : x ≡ c = sym (digits_mod w l) ∙ ap (λ (a : ℕ). a % columns g) z ∙ digits_mod r column in
              ap₂ (λ (a u : ℕ). cell_at out' a u) i j ∙ here ∙ sym (ap₂ (λ (a u : ℕ). cell_at b a u) i j)

  -- the cell numbered k, from one place to the other
  pub copied_next : (k : ℕ) {out out' : List ℕ} {from to : ℕ} → k < cells_of f → Copied b g out k → from ≡ place_of f k → to ≡ place_of g k
      → out' ≡ set_number out to g.width (number_at b from f.width) → Copied b g out' (k + 1)
  copied_next k {out} {out'} {from} {to} l q e d z =
      subst (λ (i : ℕ). Copied b g out' (i + 1)) number
      (copied_cell r c (row_of f right k l) column (subst (Copied b g out) (sym number) q) (z ∙ stored))
    where
      right : ShapeRight f
      right = right_shape h.wanted.station

      r : ℕ
      r = k / columns f

      c : ℕ
      c = k % columns f

      number : r * columns g + c ≡ k
      number = ap (λ (m : ℕ). r * m + c) (same_columns h.wanted) ∙ number_of f right k l

      column : c < columns g
      column = subst (λ (m : ℕ). c < m) (sym (same_columns h.wanted)) (column_of f right k l)

      stored : set_number out to g.width (number_at b from f.width) ≡ set_cell out r c (cell_at b r c)
      stored =
          ap₂ (λ (i m : ℕ). set_number out i g.width m) d
          (ap (λ (i : ℕ). number_at b i f.width) e ∙ cell_numbered h.wanted.station r c (number_of f right k l))
          ∙ store_numbered q.station r c (cell_at b r c) number

  -- with all cells the bytes are the record in the shape g
  pub copied_all : {out : List ℕ} → Copied b g out (cells_of f) → out ≡ bytes_of (content g (state_of b))
  copied_all {out} q =
      cells_write b out s.octets q.station.shaped q.station.octets n p
      (subst (λ (m : Shape). Within m (state_of b)) shape (within_wanted h.wanted h.none)) cells
      ∙ ap (λ (m : Shape). bytes_of (content m (state_of b))) (sym shape)
    where
      s : Station b f
      s = h.wanted.station

      shape : g ≡ shape_of out
      shape = q.station.shape

      n : (shape_of out).n ≡ (shape_of b).n
      n = ap (λ (m : Shape). m.n) (sym shape) ∙ same_n h.wanted ∙ ap (λ (m : Shape). m.n) s.shape

      p : (shape_of out).p ≡ (shape_of b).p
      p = ap (λ (m : Shape). m.p) (sym shape) ∙ same_p h.wanted ∙ ap (λ (m : Shape). m.p) s.shape

      cells : (r c : ℕ) → r < (shape_of out).n → c < columns (shape_of out) → cell_at out r c ≡ cell_at b r c
      cells r c row column =
          let l : c < columns g = subst (λ (m : Shape). c < columns m) (sym shape) column in
          let m : r < g.n = subst (λ (m : Shape). r < m.n) (sym shape) row in
          q.cells r c l (subst (λ (x : ℕ). r * columns g + c < x) same_cells (digits_lt m l))

-- a record of the wanted version, in that version, is the record itself
pub own_shape : {b : List ℕ} {f g : Shape} → Wanted b f g → f.version ≡ g.version → g ≡ shape_of b
own_shape {b} {f} h e =
    h.shape ∙ ap (λ (v : ℕ). in_version v f) (sym e) ∙ ap (λ (m : Shape). in_version m.version m) h.station.shape ∙ own_version b

pub own_record : {b : List ℕ} {f g : Shape} → Wanted b f g → f.version ≡ g.version → b ≡ bytes_of (content g (state_of b))
own_record {b} h e = sym (read_write b h.station.shaped h.station.octets) ∙ ap (λ (m : Shape). bytes_of (content m (state_of b))) (sym (own_shape h e))

-- and has as many bytes
pub own_size : {b : List ℕ} {f g : Shape} → Wanted b f g → f.version ≡ g.version → length b ≡ size_of g
own_size h e = h.station.shaped.size ∙ ap size_of (sym (own_shape h e))
