-- What the functions that read a record's state ask of their caller.
use Rattle.std.specs.Prelude.{ℕ, ◌<◌, ◌≡◌, true, List, length}
use Rattle.matrix.specs.declared.Name.{Name}
use Rattle.matrix.specs.declared.Right.{Right}
use Rattle.matrix.specs.declared.Right.TheVariants.{Own, Control, Basic}
use Rattle.matrix.specs.declared.Shape.{Shape}
use Rattle.matrix.specs.Names.{named}
use Rattle.matrix.specs.Valid.{Valid}
use Rattle.matrix.specs.Shape.{most_subjects, basics_of, shape_of}
use Rattle.matrix.specs.Reading.{state_of}
use Rattle.cells.specs.Station.{Station, station_at}

-- a right that the cells of a shape have a bit for
abbrev pub RightIn : Shape → Right → Type 0
RightIn f Own = Unit
RightIn f Control = Unit
RightIn f (Basic k g) = k < basics_of f

-- a name of the record
pub record NameIn (b : List ℕ) (f : Shape) (x : Name) : Type 0 where
  pub station : Station b f
  pub column : named f.n f.p x ≡ true

-- a bit of the record
pub record BitIn (b : List ℕ) (f : Shape) (y : Right) (w : ℕ) (x : Name) : Type 0 where
  pub station : Station b f
  pub right : RightIn f y
  pub row : w < f.n
  pub column : named f.n f.p x ≡ true

-- A valid record, with a table of guesses of who owns each subject: subject v's is byte v. Nothing is asked of the guesses.
pub record Guessed (b : List ℕ) (f : Shape) (owners : List ℕ) : Type 0 where
  pub station : Station b f
  pub valid : Valid (state_of b)
  pub size : length owners ≡ most_subjects

pub guessed_at : {b : List ℕ} {e f : Shape} {owners : List ℕ} → Guessed b e owners → f ≡ shape_of b → Guessed b f owners
guessed_at h q = record { station = station_at h.station q; valid = h.valid; size = h.size }
