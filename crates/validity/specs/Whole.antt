-- The tests of a whole record, from those that the code makes one after another.
use Rattle.std.specs.Prelude.{ℕ, ◌+◌, ◌*◌, ◌/◌, ◌≤◌, ◌<◌, ◌≡◌, refl, Bool, true, false, ◌&&◌, List, eqb, length, replicate}
use Rattle.std.proofs.Common.{arith, sym, ◌∙◌, ap, subst, eqb-true}
use Rattle.std.proofs.lemmas.List.{length-replicate}
use Rattle.matrix.specs.Bounded.{all}
use Rattle.matrix.specs.Bytes.{number_at}
use Rattle.matrix.specs.declared.Shape.{Shape}
use Rattle.matrix.specs.Shape.{limits, header_bytes, shape_of, known_version, most_subjects, in_range, sized, count_of}
use Rattle.matrix.specs.Shaped.{Shaped, Octets}
use Rattle.matrix.specs.Reading.{state_of}
use Rattle.matrix.specs.Record.{valid_matrix}
use Rattle.laws.specs.Tests.{and_left, and_right}
use Rattle.laws.specs.Bounded.{all_same}
use Rattle.laws.specs.Range.{Ranged, ranged}
use Rattle.codec.specs.ShapeRight.{ShapeRight}
use Rattle.codec.proofs.ShapeRight.{right_in, two_or_four}
use Rattle.cells.specs.Station.{Station, right_shape}
use Rattle.lanes.specs.declared.Matrix.{Matrix}
use Rattle.lanes.specs.Lanes.{seen_at, Counted}
use Rattle.columns.specs.Cells.{OneOrTwo, cell_lanes, most_counted, lanes_of, matrix_of, own_bit, control_bit, zero_cell, lanes_of_width}
use Rattle.columns.specs.Checks.{subject_test}
use Rattle.plains.specs.Checks.{plain_test}
use Rattle.owner_table.specs.Followed.{followed, followed_same}
use Rattle.owner_table.specs.Table.{reach, owner_in, Inside}
use Rattle.validity.specs.Fast.{tests_pass}
use Rattle.validity.specs.Valid.{valid_tests}
use Rattle.validity.specs.Passed.{owner_at, all_passed, owners_inside}
use Rattle.header.specs.Headed.{Headed}

-- a table of zeros, as it is before the rows are read
pub unread : (owners : List ℕ) → owners ≡ replicate most_subjects 0 → length owners ≡ most_subjects
unread owners e = ap (λ (l : List ℕ). length l) e ∙ length-replicate {A = ℕ} most_subjects 0

-- A record whose subjects' lanes are counted; a cell has q lanes.
pub record Scanned (b : List ℕ) (f : Shape) (q : ℕ) (m : Matrix) (tally odd marks : List ℕ) : Type 0 where
  pub station : Station b f
  pub cells : q ≡ cell_lanes f
  pub lanes : m ≡ matrix_of f
  pub kept : Counted most_counted b m (lanes_of q m.rows) tally odd marks

-- the same by what is counted, where q lanes are the bytes of a cell
pub scanned_by : (b bytes : List ℕ) (f : Shape) (q : ℕ) (m : Matrix) (tally odd marks : List ℕ) → bytes ≡ b → Station b f → m ≡ matrix_of f → f.width ≡ 2 * q
    → Counted most_counted bytes m (f.width / 2 * f.n) tally odd marks → Scanned bytes f q m tally odd marks
unfolding lanes_of
scanned_by b bytes f q m tally odd marks e s place w k =
    let c : q ≡ f.width / 2 = omega (arith, w) in
    record {
      station = subst (λ (x : List ℕ). Station x f) (sym e) s;
      cells = c;
      lanes = place;
      kept =
          subst (λ (i : ℕ). Counted most_counted bytes m i tally odd marks)
          (ap (λ (x : ℕ). x * f.n) (sym c) ∙ ap (λ (x : Matrix). q * x.rows) (sym place)) k;
    }

module _ (b : List ℕ) (f : Shape) (q : ℕ) (m : Matrix) (tally odd marks : List ℕ) (scanned : Scanned b f q m tally odd marks) where
  abbrev n : ℕ
  n = m.rows

  abbrev S : Bool
  S = all n (subject_test q b m (seen_at b m) tally odd)

  abbrev P : Bool
  P = all f.p (λ i. plain_test q (seen_at b m) (n + i))

  abbrev R : Bool
  R = all n (λ s. eqb (followed (owner_at q marks) reach s) 0)

  rows : n ≡ f.n
  rows = ap (λ (x : Matrix). x.rows) scanned.lanes

  number : OneOrTwo q
  number = subst OneOrTwo (sym scanned.cells) (lanes_of_width f (two_or_four f (right_shape scanned.station))).0

  width : m.lanes ≡ lanes_of q (n + f.p)
  width =
      ap (λ (x : Matrix). x.lanes) scanned.lanes ∙ ap (λ (k : ℕ). lanes_of (cell_lanes f) (k + f.p)) (sym rows)
      ∙ ap (λ (i : ℕ). lanes_of i (n + f.p)) (sym scanned.cells)

  some : 0 < n
  some = omega (arith, rows, (right_shape scanned.station).low)

  valid_whole : (S && P && R) ≡ valid_matrix (shape_of b) (state_of b)
  valid_whole =
      let s = scanned.station in
      let z : m ≡ matrix_of (shape_of b) = scanned.lanes ∙ ap matrix_of s.shape in
      let c : q ≡ cell_lanes (shape_of b) = scanned.cells ∙ ap cell_lanes s.shape in
      all_passed b s.octets m (n + f.p) number tally odd marks width scanned.kept (omega arith) f.p refl some
      ∙ (λ i. tests_pass (z i).rows (s.shape i).p (own_bit (c i) b (z i)) (control_bit (c i) b (z i)) (zero_cell (c i) b (z i)))
      ∙ valid_tests b s.octets s.shaped.low s.shaped.high

  found_inside : S ≡ true → P ≡ true → Inside n (owner_at q marks)
  found_inside = owners_inside b scanned.station.octets m (n + f.p) number tally odd marks width scanned.kept (omega arith) f.p refl some

  -- a subject is wrong; a plain column is wrong
  pub subjects_wrong : S ≡ false → false ≡ valid_matrix (shape_of b) (state_of b)
  subjects_wrong h = let e : (S && P && R) ≡ false = rw h refl in sym e ∙ valid_whole

  pub plain_wrong : S ≡ true → P ≡ false → false ≡ valid_matrix (shape_of b) (state_of b)
  plain_wrong g h = let e : (S && P && R) ≡ false = rw (g, h) refl in sym e ∙ valid_whole

  -- what is left, where each owner is put at its subject's place, is whether every owner is followed to U
  module _ (table : List ℕ) (g : S ≡ true) (h : P ≡ true) (sized : length table ≡ n) (placed : (s : ℕ) → s < n → owner_in table s ≡ owner_at q marks s) where
    pub table_inside : Inside (length table) (owner_in table)
    table_inside =
        subst (λ (k : ℕ). Inside k (owner_in table)) (sym sized) (record { below = λ s l. rw (placed s l) ((found_inside g h).below s l) })

    pub owners_left : (r : Bool) → r ≡ all (length table) (λ s. eqb (followed (owner_in table) reach s) 0) → r ≡ valid_matrix (shape_of b) (state_of b)
    owners_left r k =
        let e : (S && P && R) ≡ R = rw (g, h) refl in
        let t : all n (λ s. eqb (followed (owner_in table) reach s) 0) ≡ R =
        all_same n _ _ (λ s l. ap (λ (x : ℕ). eqb x 0)
        (followed_same (owner_in table) (owner_at q marks) (λ i. i < n) placed (found_inside g h).below reach s l)) in
        k ∙ ap (λ (i : ℕ). all i (λ s. eqb (followed (owner_in table) reach s) 0)) sized ∙ t ∙ sym e ∙ valid_whole

-- ---- the header

-- the tests of a shape, where it is the one that the bytes say
module _ (b : List ℕ) (f : Shape) (e : f ≡ shape_of b) where
  pub version_read : (r t : Bool) → r ≡ known_version f.version → r ≡ t → known_version (shape_of b).version ≡ t
  version_read r t g q = ap (λ (x : Shape). known_version x.version) (sym e) ∙ sym g ∙ q

  pub range_read : (r t : Bool) → r ≡ in_range limits f → r ≡ t → in_range limits (shape_of b) ≡ t
  range_read r t g q = ap (λ (x : Shape). in_range limits x) (sym e) ∙ sym g ∙ q

-- the shape is right where the version is known and n and p are within the limits
shape_read : (b : List ℕ) → known_version (shape_of b).version ≡ true → in_range limits (shape_of b) ≡ true → ShapeRight (shape_of b)
unfolding shape_of
shape_read b v h = let range : Ranged limits (shape_of b) = ranged limits (shape_of b) h in right_in _ _ _ v range.low range.high range.plain

pub headed : (b : List ℕ) (f : Shape) → f ≡ shape_of b → header_bytes ≤ length b → known_version (shape_of b).version ≡ true → in_range limits (shape_of b) ≡ true
    → Headed b f
headed b f e long v h = record { long = long; shape = e; right = subst ShapeRight (sym e) (shape_read b v h) }

-- a record is of the right form where its size is right too
pub station_read : (b : List ℕ) (f : Shape) → Octets b → Headed b f → sized b ≡ true → Station b f
station_read b f o h s =
    let r = subst ShapeRight h.shape h.right in
    let counted = eqb (number_at b 1 4) (count_of (shape_of b)) in
    let shaped : Shaped b =
    record {
      version = r.version;
      low = r.low;
      high = r.high;
      plain = r.plain;
      count = eqb-true _ _ (and_left counted _ s);
      size = eqb-true (length b) _ (and_right counted _ s);
    } in
    record { shaped = shaped; octets = o; shape = h.shape }
