-- `validity::check` meets its contract. The tests 1 to 5, one after the other; each refusal by the law of its number.
use mathlib.Core.Path.{◌≡◌, refl, sym, ◌∙◌}
use mathlib.Core.Bool.{true}
use Rattle.matrix.specs.Shape.{limits, shape_of, known_version, in_range, sized}
use Rattle.cells.specs.Station.{Station, station_at}
use Rattle.header.specs.Headed.{Headed}
use Rattle.validity.specs.Header.{refused_1, refused_2, refused_3, refused_4, refused_5, refused_none}
use Rattle.validity.specs.Whole.{unread, version_read, range_read, headed, station_read}
use Rattle.validity.proofs.check.Goals as goal
use Rattle.validity.proofs.check.Goals.{Else-not-in_range, Else-not-known_version, Else-not-right_size}

-- the tests that are passed at each place
version_here : (c : Else-not-known_version) → known_version (shape_of c.args.b.now).version ≡ true
version_here c = version_read _ _ c.shape-f.ensures _ _ c.known_version.ensures c.if-not-known_version.false

range_here : (c : Else-not-in_range) → in_range limits (shape_of c.args.b.now) ≡ true
range_here c = range_read _ _ c.shape-f.ensures _ _ c.in_range.ensures c.if-not-in_range.false

headed_here : (c : Else-not-in_range) → Headed c.args.b.now c.shape-f.result
headed_here c = headed _ _ c.shape-f.ensures c.if-b-lt-HEADER_BYTES.false (version_read _ _ c.shape-f.ensures _ _ c.known_version.ensures c.if-not-known_version.false) (range_here c)

sized_here : (c : Else-not-right_size) → sized c.args.b.now ≡ true
sized_here c = sym c.right_size.ensures ∙ c.if-not-right_size.false

-- the record of the right form
station : (c : Else-not-right_size) → Station c.args.b.now c.shape-f.result
station c =
    station_read _ _ (record { octet = λ j. (c.type_inv.b j).fits }) (headed _ _ c.shape-f.ensures c.if-b-lt-HEADER_BYTES.false (version_read _ _ c.shape-f.ensures _ _ c.known_version.ensures c.if-not-known_version.false) (range_read _ _ c.shape-f.ensures _ _ c.in_range.ensures c.if-not-in_range.false)) (sized_here c)

pub returns-then-b-lt-HEADER_BYTES : goal.returns-then-b-lt-HEADER_BYTES
returns-then-b-lt-HEADER_BYTES c = record {
  number = refused_1 _ c.if-b-lt-HEADER_BYTES.true;
  station = tt;
  table = unread _ c.requires;
}

pub returns-then-not-known_version : goal.returns-then-not-known_version
returns-then-not-known_version c =
    record {
      number = refused_2 _ c.if-b-lt-HEADER_BYTES.false (version_read _ _ c.shape-f.ensures _ _ c.known_version.ensures c.if-not-known_version.true);
      station = tt;
      table = unread _ c.requires;
    }

pub returns-then-not-in_range : goal.returns-then-not-in_range
returns-then-not-in_range c =
    let out = range_read _ _ c.shape-f.ensures _ _ c.in_range.ensures c.if-not-in_range.true in
    record {
      number = refused_3 _ c.if-b-lt-HEADER_BYTES.false (version_here (goal.at.returns-then-not-in_range c).Else-not-known_version) out;
      station = tt;
      table = unread _ c.requires;
    }

pub right_size-requires : goal.right_size-requires
right_size-requires c = headed_here (goal.at.right_size-requires c).Else-not-in_range

pub returns-then-not-right_size : goal.returns-then-not-right_size
returns-then-not-right_size c =
    let out = sym c.right_size.ensures ∙ c.if-not-right_size.true in
    record {
      number = refused_4 _ (headed_here (goal.at.returns-then-not-right_size c).Else-not-in_range).long (version_here (goal.at.returns-then-not-right_size c).Else-not-known_version) (range_here (goal.at.returns-then-not-right_size c).Else-not-in_range) out;
      station = tt;
      table = unread _ c.requires;
    }

pub valid-requires : goal.valid-requires
valid-requires c = (station (goal.at.valid-requires c).Else-not-right_size, unread _ c.requires)

pub returns-then-valid : goal.returns-then-valid
returns-then-valid c =
    let v = c.valid.ensures in
    record {
      number = refused_none _ (headed_here (goal.at.returns-then-valid c).Else-not-in_range).long (version_here (goal.at.returns-then-valid c).Else-not-known_version) (range_here (goal.at.returns-then-valid c).Else-not-in_range) (sized_here (goal.at.returns-then-valid c).Else-not-right_size) (sym v.verdict ∙ c.if-valid.true);
      station = station_at (station (goal.at.returns-then-valid c).Else-not-right_size) refl;
      table = v.table;
    }

pub returns-else-valid : goal.returns-else-valid
returns-else-valid c =
    let v = c.valid.ensures in
    record {
      number = refused_5 _ (headed_here (goal.at.returns-else-valid c).Else-not-in_range).long (version_here (goal.at.returns-else-valid c).Else-not-known_version) (range_here (goal.at.returns-else-valid c).Else-not-in_range) (sized_here (goal.at.returns-else-valid c).Else-not-right_size) (sym v.verdict ∙ c.if-valid.false);
      station = tt;
      table = v.table;
    }
