-- A shape in another version: n and p stay, it is a shape that records have, and a state is within it exactly where no basic right is set that
-- the version has no room for.
use Rattle.std.specs.Prelude.{ℕ, ◌≤◌, ◌<◌, ◌≡◌, refl, true, false, List}
use Rattle.std.proofs.Common.{arith}
use Rattle.matrix.specs.declared.Form.{Form}
use Rattle.matrix.specs.declared.Form.TheVariants.{Plain, Starred}
use Rattle.matrix.specs.declared.Name.{Name}
use Rattle.matrix.specs.declared.Right.TheVariants.{Basic}
use Rattle.matrix.specs.declared.Shape.{Shape}
use Rattle.matrix.specs.Names.{name_of}
use Rattle.matrix.specs.Rights.{code_of}
use Rattle.matrix.specs.State.{State}
use Rattle.matrix.specs.Shape.{shape_of, bits_of, basics_of}
use Rattle.matrix.specs.Shaped.{Within}
use Rattle.matrix.specs.Converting.{in_version, basic_from}
use Rattle.laws.specs.Basics.{basic_none}

-- the shape that a record's bytes say, in the record's own version
pub own_version : (b : List ℕ) → in_version (shape_of b).version (shape_of b) ≡ shape_of b
unfolding shape_of
own_version b = refl

-- a basic right that is set in a state within a shape is one of the shape's
pub basic_room : (f : Shape) (S : State) → Within f S → (k : ℕ) (form : Form) (w : ℕ) (x : Name) → S.basic k form w x ≡ true → k < basics_of f
basic_room f S i k Plain w x h = let r : code_of (Basic k Plain) < bits_of f = i.right (Basic k Plain) w x h in omega arith
basic_room f S i k Starred w x h = let r : code_of (Basic k Starred) < bits_of f = i.right (Basic k Starred) w x h in omega arith

-- in a state within a shape none is set that the shape has no room for
pub none_without_room : (f g : Shape) (S : State) → Within g S → basic_from (basics_of g) f S ≡ false
none_without_room f g S i =
    basic_none (basics_of g) f S
    (λ s. let l : s.k < basics_of g = basic_room g S i s.k s.form s.w (name_of f.n s.c) s.set in
    let u : basics_of g ≤ s.k = s.high in omega arith)
