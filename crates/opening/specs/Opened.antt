-- What holds of a record that is not turned down.
use Rattle.std.specs.Prelude.{ℕ, ◌*◌, ◌≤◌, ◌≡◌, List, length, get_or}
use Rattle.matrix.specs.declared.Shape.{Shape}
use Rattle.matrix.specs.Shape.{limits, header_bytes, width_of, shape_of}
use Rattle.matrix.specs.Record.{record_refusal}
use Rattle.matrix.specs.Shaped.{Octets}
use Rattle.codec.proofs.ShapeRight.{width_double}
use Rattle.owners.specs.Read.{record_shaped, long}
use Rattle.cells.specs.Station.{Station}

-- a record that is not turned down is of the right form
pub station_of : {b : List ℕ} {f : Shape} → Octets b → record_refusal limits b ≡ 0 → f ≡ shape_of b → Station b f
station_of {b} o h e = record { shaped = record_shaped b h; octets = o; shape = e }

pub long_enough : (b : List ℕ) → record_refusal limits b ≡ 0 → header_bytes ≤ length b
long_enough b h = long b (record_shaped b h)

-- the bytes of a cell of such a record, from its version
pub width_read : (b : List ℕ) → record_refusal limits b ≡ 0 → 2 * get_or b 0 0 ≡ width_of (get_or b 0 0)
unfolding shape_of
width_read b h = width_double (get_or b 0 0) (record_shaped b h).version

pub station_long : {b : List ℕ} {f : Shape} → Station b f → header_bytes ≤ length b
station_long {b} h = long b h.shaped
