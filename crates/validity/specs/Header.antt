-- The lanes of a record's bytes, and the refusals one by one.
use Rattle.std.specs.Prelude.{ℕ, ◌+◌, ◌≤◌, ◌<◌, ◌≡◌, true, false, List, length}
use Rattle.std.proofs.Common.{arith, sym, ◌∙◌, ap, subst, le-leb}
use Rattle.std.proofs.Math.Path.{refl}
use Rattle.std.proofs.lemmas.Bool.{lt-leb}
use Rattle.matrix.specs.declared.Shape.{Shape}
use Rattle.matrix.specs.Shape.{limits, header_bytes, shape_of, known_version, in_range, sized}
use Rattle.matrix.specs.Reading.{state_of}
use Rattle.matrix.specs.Tests.{first_failed}
use Rattle.matrix.specs.Record.{valid_matrix, record_refusal}
use Rattle.codec.specs.ShapeRight.{ShapeRight}
use Rattle.codec.proofs.ShapeRight.{two_or_four}
use Rattle.cells.specs.Station.{Station, right_shape}
use Rattle.lanes.specs.declared.Matrix.{Matrix}
use Rattle.lanes.specs.Lanes.{row_place, Laid}
use Rattle.columns.specs.Cells.{OneOrTwo, cell_lanes, lanes_of, matrix_of, lanes_more, lanes_of_width, rows_size}
use Rattle.columns.specs.Checks.{Celled}
use Rattle.plains.specs.Parts.{Columned}

-- the lanes of the cells of a record's bytes
pub lanes_laid : (b : List ℕ) (f : Shape) (m : Matrix) → Station b f → m ≡ matrix_of f → Laid b m
lanes_laid b f m s e =
    let h = right_shape s in
    let size : row_place m m.rows ≡ length b =
    ap (λ (x : Matrix). row_place x x.rows) (e ∙ ap matrix_of s.shape) ∙ sym (rows_size b) ∙ sym s.shaped.size in
    let rows : m.rows ≡ f.n = ap (λ (x : Matrix). x.rows) e in
    record { some = omega (arith, h.low); holds = omega arith }

pub lanes_columned : (f : Shape) (m : Matrix) (q : ℕ) → ShapeRight f → m ≡ matrix_of f → q ≡ cell_lanes f → Columned q m.rows f.p m
lanes_columned f m q h e c =
    let rows : m.rows ≡ f.n = ap (λ (x : Matrix). x.rows) e in
    record {
      few = omega (arith, h.high, h.plain);
      width =
          ap (λ (x : Matrix). x.lanes) e ∙ ap (λ (k : ℕ). lanes_of (cell_lanes f) (k + f.p)) (sym rows)
          ∙ ap (λ (i : ℕ). lanes_of i (m.rows + f.p)) (sym c);
    }

pub lanes_celled : (f : Shape) (m : Matrix) (q : ℕ) → ShapeRight f → m ≡ matrix_of f → q ≡ cell_lanes f → Celled q m
lanes_celled f m q h e c =
    let w = subst OneOrTwo (sym c) (lanes_of_width f (two_or_four f h)).0 in
    record {
      subjects = omega (arith, h.high, ap (λ (x : Matrix). x.rows) e);
      inside = omega (arith, (lanes_columned f m q h e c).width, lanes_more w m.rows (m.rows + f.p) (omega arith));
    }

-- ---- the refusals, one by one

module _ (b : List ℕ) where
  pub refused_1 : length b < header_bytes → 1 ≡ record_refusal limits b
  unfolding record_refusal first_failed
  refused_1 h = rw (lt-leb header_bytes (length b) h) refl

  module _ (long : header_bytes ≤ length b) where
    pub refused_2 : known_version (shape_of b).version ≡ false → 2 ≡ record_refusal limits b
    unfolding record_refusal first_failed
    refused_2 h = rw (le-leb header_bytes (length b) long, h) refl

    module _ (version : known_version (shape_of b).version ≡ true) where
      pub refused_3 : in_range limits (shape_of b) ≡ false → 3 ≡ record_refusal limits b
      unfolding record_refusal first_failed
      refused_3 h = rw (le-leb header_bytes (length b) long, version, h) refl

      module _ (range : in_range limits (shape_of b) ≡ true) where
        pub refused_4 : sized b ≡ false → 4 ≡ record_refusal limits b
        unfolding record_refusal first_failed
        refused_4 h = rw (le-leb header_bytes (length b) long, version, range, h) refl

        pub refused_5 : sized b ≡ true → valid_matrix (shape_of b) (state_of b) ≡ false → 5 ≡ record_refusal limits b
        unfolding record_refusal first_failed
        refused_5 s h = rw (le-leb header_bytes (length b) long, version, range, s, h) refl

        pub refused_none : sized b ≡ true → valid_matrix (shape_of b) (state_of b) ≡ true → 0 ≡ record_refusal limits b
        unfolding record_refusal first_failed
        refused_none s h = rw (le-leb header_bytes (length b) long, version, range, s, h) refl
