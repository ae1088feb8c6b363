-- A record of the right form is read as one state, and that state is written as the same bytes; a state within a shape's names and rights is
-- read back as it was written.
use Rattle.std.specs.Prelude.{ℕ, ◌<◌, ◌≡◌, true}
use Rattle.std.proofs.Common.{◌∙◌}
use Rattle.std.proofs.Math.Path.{sym, ap}
use mathlib.Core.List.{List}
use Rattle.std.proofs.Math.ListN.{get_or}
use Rattle.matrix.specs.declared.Name.{Name}
use Rattle.matrix.specs.declared.Right.{Right}
use Rattle.matrix.specs.declared.Shape.{Shape}
use Rattle.matrix.specs.Names.{name_of, column_of, named}
use Rattle.matrix.specs.Rights.{code_of, right_of}
use Rattle.matrix.specs.State.{State, has}
use Rattle.matrix.specs.Bytes.{bit}
use Rattle.matrix.specs.declared.Shape.{Shape}
use Rattle.matrix.specs.Shape.{shape_of, columns, bits_of}
use Rattle.matrix.specs.Reading.{content, state_of, bytes_of}
use Rattle.matrix.specs.Shaped.{Shaped, Within}
use Rattle.laws.specs.Tests.{same_test}
use Rattle.codec.specs.ShapeRight.{ShapeRight}
use Rattle.codec.proofs.ShapeRight.{right_in}
use Rattle.codec.specs.Bits.{bit_from_bits}
use Rattle.codec.specs.Codes.{right_of_code_of}
use Rattle.codec.specs.Columns.{name_of_column_of, named_below, same_state}
use Rattle.codec.specs.Update.{bit_named}
use Rattle.codec.proofs.Written.{shape_write, cell_write}
use Rattle.codec.specs.RoundTrip.{within_read}

pub shape_right : (b : List ℕ) → Shaped b → ShapeRight (shape_of b)
unfolding shape_of
shape_right b s = right_in (get_or b 0 0) (get_or b 5 0) (get_or b 6 0) s.version s.low s.high s.plain

-- ---- a state that is written, and read again
pub write_read : (f : Shape) (S : State) → ShapeRight f → Within f S → state_of (bytes_of (content f S)) ≡ S
write_read f S g i =
    same_state (state_of (bytes_of (content f S))) S (top ∙ sym i.top)
    (λ y w x. same_test (has (state_of (bytes_of (content f S))) y w x) (has S y w x) (read y w x) (written y w x))
  where
    shape : shape_of (bytes_of (content f S)) ≡ f
    shape = shape_write f S g

    top : (state_of (bytes_of (content f S))).top ≡ f.n
    top = (within_read (bytes_of (content f S))).top ∙ ap (λ (e : Shape). e.n) shape

    -- within the names and rights of the shape the bit is read as it is in the state
    inside : (y : Right) (w : ℕ) (x : Name) → w < f.n → named f.n f.p x ≡ true → code_of y < bits_of f
        → has (state_of (bytes_of (content f S))) y w x ≡ has S y w x
    inside y w x row column room =
        bit_named (bytes_of (content f S)) y w x (rw shape row) (rw shape column) (rw shape room) ∙ ap (bit (code_of y)) (cell_write f S w c g row below)
        ∙ bit_from_bits (bits_of f) (λ j. has S (right_of j) w (name_of f.n c)) (code_of y) room
        ∙ ap (λ (z : Right). has S z w (name_of f.n c)) (right_of_code_of y) ∙ ap (has S y w) name
      where
        c : ℕ
        c = column_of x

        name : name_of f.n c ≡ x
        name = name_of_column_of f.n f.p x column

        below : c < columns f
        below = named_below f.n f.p x column

    read : (y : Right) (w : ℕ) (x : Name) → has (state_of (bytes_of (content f S))) y w x ≡ true → has S y w x ≡ true
    read y w x h =
        let n = within_read (bytes_of (content f S)) in
        sym (inside y w x (rw shape at (n.row y w x h)) (rw shape at (n.column y w x h)) (rw shape at (n.right y w x h))) ∙ h

    written : (y : Right) (w : ℕ) (x : Name) → has S y w x ≡ true → has (state_of (bytes_of (content f S))) y w x ≡ true
    written y w x h = inside y w x (i.row y w x h) (i.column y w x h) (i.right y w x h) ∙ h
