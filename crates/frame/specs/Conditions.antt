-- The conditions that this crate's theorems speak of: bits, names and rights of a record.
use Rattle.std.specs.Prelude.{ℕ, ◌<◌, ◌≡◌, true}
use Rattle.matrix.specs.declared.Name.{Name}
use Rattle.matrix.specs.declared.Right.{Right}
use Rattle.matrix.specs.declared.Act.{Act}
use Rattle.matrix.specs.declared.Act.TheVariants.{Transfer, Grant, Delete, CreateObject, DestroyObject, CreateSubject, DestroySubject}
use Rattle.matrix.specs.declared.Command.{Command}
use Rattle.matrix.specs.declared.Shape.{Shape}
use Rattle.matrix.specs.Names.{named}
use Rattle.matrix.specs.Rights.{code_of}
use Rattle.matrix.specs.Shape.{bits_of}

-- the bit of right z in the cell of row w and column x is one of the record's
pub record Inside (f : Shape) (z : Right) (w : ℕ) (x : Name) : Type 0 where
  pub row : w < f.n
  pub column : named f.n f.p x ≡ true
  pub right : code_of z < bits_of f

-- the names of a command are the record's
pub record NamesIn (f : Shape) (c : Command) : Type 0 where
  pub i : c.i < f.n
  pub s : c.s < f.n
  pub o : named f.n f.p c.o ≡ true

-- the right that is transferred, granted or deleted has its bit in a cell of so many bits
abbrev pub RightFits : ℕ → Act → Type 0
RightFits bits (Transfer y) = code_of y < bits
RightFits bits (Grant y) = code_of y < bits
RightFits bits (Delete y) = code_of y < bits
RightFits bits CreateObject = Unit
RightFits bits DestroyObject = Unit
RightFits bits CreateSubject = Unit
RightFits bits DestroySubject = Unit
