-- What the functions that tell a way ask of their caller.
use Rattle.std.specs.Prelude.{ℕ, ◌+◌, ◌≤◌, ◌≡◌, List, length}
use Rattle.matrix.specs.declared.Shape.{Shape}
use Rattle.matrix.specs.Reading.{state_of}
use Rattle.states.specs.Needs.{BitIn}
use Rattle.question.specs.Safety.{Safety}
use Rattle.question.specs.Safety.{Leaks}
use Rattle.question.specs.Asked.{list_room}
use Rattle.ways.specs.Ways.{Way, list_of}
use Rattle.writing.specs.Put.{put_head}
use Rattle.telling.specs.declared.target.Target.{Target}

-- a question of the record's names and rights, with room for n + 2 commands, which are enough for the list of the way w
pub record Asks (b : List ℕ) (f : Shape) (t : Target) (w : Way) (out : List ℕ) : Type 0 where
  pub bit : BitIn b f t.y t.s t.x
  pub few : length (list_of (state_of b) t.s t.x t.y w) ≤ f.n + 2
  pub room : list_room (f.n + 2) ≤ length out

-- the head is written over the list, and leaks is answered
pub record Headed (out out' : List ℕ) (k : ℕ) (r : Safety) : Type 0 where
  pub buffer : out' ≡ put_head out k
  pub reply : r ≡ Leaks k
