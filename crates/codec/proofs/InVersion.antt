-- A shape in another version: n and p stay, it is a shape that records have, and a state is within it exactly where no basic right is set that
-- the version has no room for.
use Rattle.std.specs.Prelude.{ℕ, ◌≤◌, ◌<◌, ◌≡◌, true, false, leb}
use Rattle.std.proofs.Common.{arith, ⊎_elim, leb-true, leb-false}
use Rattle.matrix.specs.declared.Form.{Form}
use Rattle.matrix.specs.declared.Name.{Name}
use Rattle.matrix.specs.declared.Right.{Right}
use Rattle.matrix.specs.declared.Right.TheVariants.{Own, Control, Basic}
use Rattle.matrix.specs.declared.Shape.{Shape}
use Rattle.matrix.specs.Names.{column_of}
use Rattle.matrix.specs.Rights.{code_of}
use Rattle.matrix.specs.State.{State, has}
use Rattle.matrix.specs.Shape.{known_version, width_of, bits_of, basics_of}
use Rattle.matrix.specs.Shaped.{Within}
use Rattle.matrix.specs.Converting.{in_version, basic_from}
use Rattle.laws.specs.Tests.{way, clash}
use Rattle.laws.specs.Basics.{basic_hit}
use Rattle.codec.specs.ShapeRight.{ShapeRight}
use Rattle.codec.proofs.ShapeRight.{right_in, widths}
use Rattle.codec.specs.Codes.{code_of_room}
use Rattle.codec.specs.Columns.{name_of_column_of, named_below}
use Rattle.codec.specs.InVersion.{basic_room}

pub right_version : (v : ℕ) (f : Shape) → known_version v ≡ true → ShapeRight f → ShapeRight (in_version v f)
right_version v f known g = right_in v f.n f.p known g.low g.high g.plain

-- a state within a shape, of which no basic right is set that a version has no room for, is within the shape in that version
pub within_version : (v : ℕ) (f : Shape) (S : State) → Within f S → basic_from (basics_of (in_version v f)) f S ≡ false → Within (in_version v f) S
within_version v f S i none = record { top = i.top; row = i.row; column = i.column; right = right }
  where
    basics : ℕ
    basics = basics_of (in_version v f)

    -- the basic right would be found where its number is beyond the version's
    few : (k : ℕ) (form : Form) (w : ℕ) (x : Name) → S.basic k form w x ≡ true → k < basics
    few k form w x h =
        ⊎_elim (λ (u : leb basics k ≡ true). absurd (clash (found (leb-true basics k u)) none))
        (λ (u : leb basics k ≡ false). leb-false basics k u) (way (leb basics k))
      where
        found : basics ≤ k → basic_from basics f S ≡ true
        found u =
            basic_hit basics f S
            (record {
              w = w;
              c = column_of x;
              k = k;
              form = form;
              row = i.row (Basic k form) w x h;
              column = named_below f.n f.p x (i.column (Basic k form) w x h);
              room = basic_room f S i k form w x h;
              high = u;
              set = rw (name_of_column_of f.n f.p x (i.column (Basic k form) w x h)) h;
            })

    wide : 2 ≤ width_of v
    wide = ⊎_elim (λ (e : width_of v ≡ 2). omega arith) (λ (e : width_of v ≡ 4). omega arith) (widths v)

    right : (y : Right) (w : ℕ) (x : Name) → has S y w x ≡ true → code_of y < bits_of (in_version v f)
    right Own w x h = omega (arith, wide)
    right Control w x h = omega (arith, wide)
    right (Basic k form) w x h = code_of_room (width_of v) k form (few k form w x h)
