-- `validity::few_valid` meets its contract.
use Rattle.std.proofs.Common.{arith, ℕ, ◌≡◌, ◌+◌, ◌/◌, ◌∙◌, ◌≤◌, sym, ap, subst, true, List, length, take}
use Rattle.std.proofs.lemmas.List.{length-take-le, get_or-take}
use Rattle.matrix.specs.Shape.{shape_of}
use Rattle.matrix.specs.Reading.{state_of}
use Rattle.matrix.specs.Record.{valid_matrix}
use Rattle.cells.specs.Station.{Station, right_shape}
use Rattle.lanes.specs.declared.Matrix.{Matrix}
use Rattle.columns.specs.Cells.{lanes_of}
use Rattle.tallies.specs.Blocks.{at_once}
use Rattle.plains.specs.Parts.{lanes_single}
use Rattle.few_subjects.specs.Counts.{since_few}
use Rattle.validity.specs.Few.{surely}
use Rattle.validity.specs.Header.{lanes_celled}
use Rattle.validity.proofs.few_valid.Goals as goal
use Rattle.validity.proofs.few_valid.Goals.{After-lanes_in-lanes}

-- the rows are the subjects, and a row's lanes its columns
rows_are : (c : After-lanes_in-lanes) → c.lanes_in-lanes.result.matrix.rows ≡ c.args.f.n
rows_are c = ap (λ (m : Matrix). m.rows) c.lanes_in-lanes.ensures.place

lanes_are : (c : After-lanes_in-lanes) → c.lanes_in-lanes.result.matrix.lanes ≡ c.args.f.n + c.args.f.p
lanes_are c =
    let f = c.args.f in
    ap (λ (m : Matrix). m.lanes) c.lanes_in-lanes.ensures.place ∙ ap (λ (w : ℕ). lanes_of (w / 2) (f.n + f.p)) c.requires.1.width ∙ lanes_single (f.n + f.p)

pub invariant_of-cells : goal.invariant_of-cells
invariant_of-cells c =
    record {
      celled =
          lanes_celled c.args.f c.lanes_in-lanes.result.matrix 1 (right_shape c.requires.0) c.lanes_in-lanes.ensures.place
          (ap (λ (w : ℕ). w / 2) (sym c.requires.1.width));
    }

pub rows-counts-requires : goal.rows-counts-requires
rows-counts-requires c =
    let d = (goal.at.rows-counts-requires c).After-lanes_in-lanes in
    (omega (arith, c.requires.1.subjects, rows_are d), omega (arith, c.requires.1.enough, lanes_are d))

pub one_part-requires : goal.one_part-requires
one_part-requires c =
    (omega (arith, c.requires.1.enough, lanes_are (goal.at.one_part-requires c).After-lanes_in-lanes), omega (arith, lanes_single c.args.f.p, c.requires.1.plain))

pub put_places-requires : goal.put_places-requires
put_places-requires c =
    let few : c.lanes_in-lanes.result.matrix.rows ≤ at_once = omega (arith, c.requires.1.subjects, rows_are (goal.at.put_places-requires c).After-lanes_in-lanes) in
    (omega arith, omega arith, omega arith, λ j below. since_few _ c.lanes_in-lanes.result.matrix _ c.rows-counts.ensures (omega arith) j below)

-- where the tests pass, the matrix of the bytes that the lanes lie in is valid
pub returns : goal.returns
returns c e =
    let l = c.lanes_in-lanes in
    let m = l.result.matrix in
    let left = c.put_places.new.list in
    let fits : m.rows ≤ length left = omega (arith, c.put_places.ensures.size, c.requires.1.subjects, rows_are (goal.at.returns c).After-lanes_in-lanes) in
    subst (λ (x : List ℕ). true ≡ valid_matrix (shape_of x) (state_of x)) l.ensures.bytes
    (surely l.result.bytes.now c.args.f m (subst (λ (x : List ℕ). Station x c.args.f) (sym l.ensures.bytes) c.requires.0) c.requires.1 l.ensures.place c.rows-counts.result c.rows-counts.ensures
    c.args.owners.now left (take m.rows left) c.put_places.ensures (length-take-le m.rows left fits) (λ s h. get_or-take m.rows left s 0 h)
    (sym c.all_present.ensures ∙ c.if-not-all_present.false)
    (sym c.counts_fit.ensures ∙ c.if-not-counts_fit.false)
    (sym c.one_part.ensures ∙ c.if-not-one_part.false)
    (sym c.descends.ensures ∙ e))
