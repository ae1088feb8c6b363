-- Laws of changes: they follow one another, and one stored cell is a bit put or a cell cleared.
use Rattle.std.specs.Prelude.{ℕ, ◌%◌, ◌<◌, ◌≡◌, refl, Bool, true, List, length, get_or, set}
use Rattle.std.proofs.Common.{sym, ◌∙◌, ap, subst}
use Rattle.matrix.specs.declared.Name.{Name}
use Rattle.matrix.specs.declared.Right.{Right}
use Rattle.matrix.specs.declared.Shape.{Shape}
use Rattle.matrix.specs.Names.{name_of, column_of, named}
use Rattle.matrix.specs.Rights.{code_of}
use Rattle.matrix.specs.State.{State, is_cell, put, clear}
use Rattle.matrix.specs.Shape.{shape_of, bits_of, columns, size_of}
use Rattle.matrix.specs.Reading.{cell_at, set_cell, state_of}
use Rattle.codec.specs.Bits.{with_bit}
use Rattle.codec.specs.Cells.{shape_set, shaped_set, octets_set}
use Rattle.codec.specs.Columns.{name_of_column_of, named_below}
use Rattle.codec.proofs.Update.{state_put, state_clear}
use Rattle.cells.specs.Station.{Station, Cell, right_shape}
use Rattle.cells.specs.Places.{bit_place, bit_stored}
use Rattle.states.specs.Needs.{RightIn, BitIn}
use Rattle.states.specs.Reads.{code_in}
use Rattle.bits.specs.Became.{Became}

-- nothing is changed
pub became_same : {b : List ℕ} {f : Shape} → Station b f → Became b b (state_of b)
became_same h = record { shaped = h.shaped; octets = h.octets; shape = refl; state = refl }

-- one change after another
pub became_then : {b b' b'' : List ℕ} {S : State} (F : State → State) → Became b b' S → Became b' b'' (F (state_of b')) → Became b b'' (F S)
became_then F h g =
    record { shaped = g.shaped; octets = g.octets; shape = g.shape ∙ h.shape; state = g.state ∙ ap F h.state }

-- the same change, its state said otherwise
pub became_as : {b b' : List ℕ} {S T : State} → Became b b' S → S ≡ T → Became b b' T
became_as h e = record { shaped = h.shaped; octets = h.octets; shape = h.shape; state = h.state ∙ e }

pub became_at : {b b' b'' : List ℕ} {S : State} → b'' ≡ b' → Became b b' S → Became b b'' S
became_at {b} {S = S} e h = subst (λ (l : List ℕ). Became b l S) (sym e) h

-- the shape stays as it is
pub station_after : {b b' : List ℕ} {f : Shape} {S : State} → Station b f → Became b b' S → Station b' f
station_after s h =
    record { shaped = h.shaped; octets = h.octets; shape = s.shape ∙ sym h.shape }

pub length_after : {b b' : List ℕ} {f : Shape} {S : State} → Station b f → Became b b' S → length b' ≡ length b
length_after s h = h.shaped.size ∙ ap size_of h.shape ∙ sym s.shaped.size

pub cell_after : {b b' : List ℕ} {f : Shape} {r c : ℕ} {S : State} → Station b f → Became b b' S → r < f.n → c < columns f → Cell b' f r c
cell_after s h row column = record { station = station_after s h; row = row; column = column }

pub bit_after : {b b' : List ℕ} {f : Shape} {w : ℕ} {y : Right} {x : Name} {S : State} → Station b f → Became b b' S → RightIn f y → w < f.n
    → named f.n f.p x ≡ true → BitIn b' f y w x
bit_after s h right row column = record { station = station_after s h; right = right; row = row; column = column }

-- a cell's row and column are those of the shape
pub cell_row : {b : List ℕ} {f : Shape} {r c : ℕ} → Cell b f r c → r < (shape_of b).n
cell_row h = rw (← h.station.shape) h.row

pub cell_column : {b : List ℕ} {f : Shape} {r c : ℕ} → Cell b f r c → c < columns (shape_of b)
cell_column h = rw (← h.station.shape) h.column

-- a cell is stored
became_set : {b b' : List ℕ} {f : Shape} {r c : ℕ} {S : State} (v : ℕ) → Cell b f r c → b' ≡ set_cell b r c v → state_of (set_cell b r c v) ≡ S → Became b b' S
became_set {b} {r = r} {c = c} v h e g =
    record {
      shaped = rw e (shaped_set b r c v h.station.shaped);
      octets = rw e (octets_set b r c v h.station.octets);
      shape = ap shape_of e ∙ shape_set b r c v;
      state = ap state_of e ∙ g;
    }

-- One bit of it is set or cleared: u is the number v of the cell, with the bit of the right's code j set or cleared.
pub became_put : {b b' : List ℕ} {f : Shape} {w c j at v : ℕ} (y : Right) (on : Bool) → Cell b f w c → RightIn f y → j ≡ code_of y → at ≡ bit_place f w c j
    → v ≡ with_bit (j % 8) on (get_or b at 0) → b' ≡ set b at v → Became b b' (put y w (name_of f.n c) on (state_of b))
became_put {b} {b'} {f} {w = w} {c = c} {j = j} {at = at} y on h l e i g k =
    became_set (with_bit (code_of y) on (cell_at b w c)) h
    (k ∙ ap (set b at) g ∙ ap (λ (x : ℕ). set b x (with_bit (j % 8) on (get_or b x 0))) i
    ∙ sym (bit_stored b f h.station w c j on (rw e (code_in f (right_shape h.station) y l))) ∙ ap (λ (x : ℕ). set_cell b w c (with_bit x on (cell_at b w c))) e)
    (state_put b w c y on h.station.shaped h.station.octets (cell_row h) (cell_column h) room
    ∙ ap (λ (m : Shape). put y w (name_of m.n c) on (state_of b)) (sym h.station.shape))
  where
    room : code_of y < bits_of (shape_of b)
    room = rw (← h.station.shape) (code_in f (right_shape h.station) y l)

-- it becomes 0
pub became_clear : {b b' : List ℕ} {f : Shape} {r c : ℕ} → Cell b f r c → b' ≡ set_cell b r c 0
    → Became b b' (clear (λ w x. is_cell r (name_of f.n c) w x) (state_of b))
became_clear {b} {r = r} {c = c} h e =
    became_set 0 h e
    (state_clear b r c h.station.shaped (cell_row h) (cell_column h)
    ∙ ap (λ (m : Shape). clear (λ w x. is_cell r (name_of m.n c) w x) (state_of b)) (sym h.station.shape))

-- a bit of the record, by the name's column
pub bit_cell : {b : List ℕ} {f : Shape} {w c : ℕ} {y : Right} {x : Name} → BitIn b f y w x → c ≡ column_of x → Cell b f w c
bit_cell {f = f} {x = x} h e = record { station = h.station; row = h.row; column = rw e (named_below f.n f.p x h.column) }

pub became_named : {b b' : List ℕ} {f : Shape} {w c : ℕ} {y : Right} {x : Name} (on : Bool) → BitIn b f y w x → c ≡ column_of x
    → Became b b' (put y w (name_of f.n c) on (state_of b)) → Became b b' (put y w x on (state_of b))
became_named {b} {f = f} {w = w} {y = y} {x = x} on h e g =
    became_as g (ap (λ (z : Name). put y w z on (state_of b)) (ap (name_of f.n) e ∙ name_of_column_of f.n f.p x h.column))
