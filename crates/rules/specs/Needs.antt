-- What the tests of a command ask of their caller.
use Rattle.std.specs.Prelude.{ℕ, ◌<◌, ◌≡◌, true, List}
use Rattle.matrix.specs.declared.Act.{Act}
use Rattle.matrix.specs.declared.Act.TheVariants.{Transfer, Grant, Delete, CreateObject, DestroyObject, CreateSubject, DestroySubject}
use Rattle.matrix.specs.declared.Command.{Command}
use Rattle.matrix.specs.declared.Shape.{Shape}
use Rattle.matrix.specs.Names.{named}
use Rattle.cells.specs.Station.{Station}
use Rattle.states.specs.Needs.{RightIn}

-- the right that a command names, if any, is one of the shape's
abbrev pub ActIn : Shape → Act → Type 0
ActIn f (Transfer y) = RightIn f y
ActIn f (Grant y) = RightIn f y
ActIn f (Delete y) = RightIn f y
ActIn f CreateObject = Unit
ActIn f DestroyObject = Unit
ActIn f CreateSubject = Unit
ActIn f DestroySubject = Unit

-- a command on names and rights of the record
pub record CommandIn (b : List ℕ) (f : Shape) (c : Command) : Type 0 where
  pub station : Station b f
  pub initiator : c.i < f.n
  pub subject : c.s < f.n
  pub object : named f.n f.p c.o ≡ true
  pub right : ActIn f c.act
