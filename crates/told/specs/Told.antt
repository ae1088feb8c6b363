-- The answer and the buffer that a way makes.
use Rattle.std.specs.Prelude.{ℕ, ◌≡◌, List, length}
use Rattle.matrix.specs.declared.Name.{Name}
use Rattle.matrix.specs.declared.Right.{Right}
use Rattle.matrix.specs.declared.Fields.{Fields}
use Rattle.matrix.specs.State.{State}
use Rattle.question.specs.Safety.{Safety}
use Rattle.question.specs.Safety.{Leaks}
use Rattle.ways.specs.Ways.{Way, held_now, by_star, by_creation, from_above, no_way, list_of}
use Rattle.writing.specs.Put.{put_list}

-- safe where there is no way, else leaks by so many commands
abbrev pub safety_of : Way → ℕ → Safety
safety_of held_now commands = Leaks commands
safety_of (by_star i) commands = Leaks commands
safety_of (by_creation v) commands = Leaks commands
safety_of (from_above v ws) commands = Leaks commands
safety_of no_way commands = Safety.Safe

-- the buffer unchanged where there is no way, else with the list written
abbrev pub buffer_of : Way → List ℕ → List Fields → List ℕ
buffer_of held_now out cs = put_list out cs
buffer_of (by_star i) out cs = put_list out cs
buffer_of (by_creation v) out cs = put_list out cs
buffer_of (from_above v ws) out cs = put_list out cs
buffer_of no_way out cs = out

-- the answer r and the buffer out' are those of the way w
pub record Told (S : State) (s : ℕ) (o : Name) (x : Right) (w : Way) (out out' : List ℕ) (r : Safety) : Type 0 where
  pub reply : r ≡ safety_of w (length (list_of S s o x w))
  pub buffer : out' ≡ buffer_of w out (list_of S s o x w)
