-- What a change of a record's bytes comes to: the bytes are still of the right form, of the same shape, and are read as the state S.
use Rattle.std.specs.Prelude.{ℕ, ◌≡◌, List}
use Rattle.matrix.specs.State.{State}
use Rattle.matrix.specs.Shape.{shape_of}
use Rattle.matrix.specs.Reading.{state_of}
use Rattle.matrix.specs.Shaped.{Shaped, Octets}

pub record Became (b b' : List ℕ) (S : State) : Type 0 where
  pub shaped : Shaped b'
  pub octets : Octets b'
  pub shape : shape_of b' ≡ shape_of b
  pub state : state_of b' ≡ S
