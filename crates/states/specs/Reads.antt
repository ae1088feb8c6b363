-- The state of a record's bytes, read from the cells.
use Rattle.std.specs.Prelude.{ℕ, ◌<◌, ◌≡◌, Option, Bool, true, false, ◌&&◌, List, eqb}
use Rattle.std.proofs.Common.{arith, sym, ◌∙◌, subst, lt-ltb, ltb-true, ne_eqb}
use Rattle.std.proofs.Math.Path.{ap}
use Rattle.std.proofs.Math.Bool.{not, and_comm}
use Rattle.matrix.specs.declared.Name.{Name}
use Rattle.matrix.specs.declared.Name.TheVariants.{Subject, Plain}
use Rattle.matrix.specs.declared.Form.{Form}
use Rattle.matrix.specs.declared.Right.{Right}
use Rattle.matrix.specs.declared.Right.TheVariants.{Own, Control, Basic}
use Rattle.matrix.specs.declared.Shape.{Shape}
use Rattle.matrix.specs.Bounded.{any, least}
use Rattle.matrix.specs.Names.{named, column_of}
use Rattle.matrix.specs.Rights.{code_of, right_of}
use Rattle.matrix.specs.State.{has, exists_name}
use Rattle.matrix.specs.Owners.{owner_of}
use Rattle.matrix.specs.Tests.{other_controller}
use Rattle.matrix.specs.Bytes.{bit}
use Rattle.matrix.specs.Valid.{Valid}
use Rattle.matrix.specs.Shape.{shape_of, columns, bits_of, basics_of}
use Rattle.matrix.specs.Reading.{cell_at, bit_at, state_of}
use Rattle.laws.specs.Bounded.{any_found, any_same, least_same}
use Rattle.codec.specs.Bits.{word_bits, any_bit}
use Rattle.codec.specs.Cells.{cell_below}
use Rattle.codec.specs.Codes.{code_of_room, code_of_right_of}
use Rattle.codec.specs.Columns.{named_below}
use Rattle.codec.specs.ShapeRight.{ShapeRight}
use Rattle.codec.proofs.ShapeRight.{width_some, bits_most}
use Rattle.codec.specs.Update.{has_state, bit_at_named, bit_named}
use Rattle.owners.specs.Framed.{valid_framed, owner_same}
use Rattle.cells.specs.Station.{Station, right_shape}
use Rattle.row_search.specs.SomeBelow.{some_below}
use Rattle.row_search.specs.Rows.{row_has}
use Rattle.states.specs.Needs.{RightIn, NameIn, Guessed}

-- the code of a right of a shape is one of a cell's bits, and so a small number
module _ (f : Shape) (g : ShapeRight f) where
  pub code_in : (y : Right) → RightIn f y → code_of y < bits_of f
  code_in Own h = omega (arith, width_some f g)
  code_in Control h = omega (arith, width_some f g)
  code_in (Basic k e) h = code_of_room f.width k e h

  pub code_small : (y : Right) → RightIn f y → code_of y < word_bits
  code_small y h = omega (arith, code_in y h, bits_most f g)

-- a basic right, taken apart
pub basic_in : {y : Right} {k : ℕ} {e : Form} (f : Shape) → y ≡ Basic k e → RightIn f y → k < basics_of f
basic_in f e h = subst (RightIn f) e h

module _ (b : List ℕ) (f : Shape) (h : Station b f) where
  -- a bit of the state is the bit of the right's code in the cell
  pub read_bit : (y : Right) (w : ℕ) (x : Name) → RightIn f y → w < f.n → named f.n f.p x ≡ true → has (state_of b) y w x ≡ bit (code_of y) (cell_at b w (column_of x))
  read_bit y w x hy hw hx =
      bit_named b y w x (rw (← h.shape) hw) (rw (← h.shape) hx) (rw (← h.shape) (code_in f (right_shape h) y hy))

  -- the state's bound is n
  pub top_is : (state_of b).top ≡ f.n
  unfolding state_of
  top_is = ap (λ (e : Shape). e.n) (sym h.shape)

  -- the lowest row of a column with a bit, and whether there is one, in a search that leaves none out
  pub search_bit : (y : Right) (x : Name) → RightIn f y → named f.n f.p x ≡ true → least f.n (λ w. bit (code_of y) (cell_at b w (column_of x))) ≡ least (state_of b).top (λ w. has (state_of b) y w x)
  search_bit y x hy hx =
      least_same f.n (λ w. bit (code_of y) (cell_at b w (column_of x))) (λ w. has (state_of b) y w x) (λ w l. sym (read_bit y w x hy l hx))
      ∙ ap (λ (m : ℕ). least m (λ w. has (state_of b) y w x)) (sym top_is)

  pub some_bit : (y : Right) (x : Name) → RightIn f y → named f.n f.p x ≡ true → any f.n (row_has b (column_of x) (code_of y) f.n) ≡ any (state_of b).top (λ w. has (state_of b) y w x)
  unfolding row_has
  some_bit y x hy hx =
      any_same f.n (row_has b (column_of x) (code_of y) f.n) (λ w. has (state_of b) y w x)
      (λ w l. rw (ne_eqb w f.n (λ e. omega arith)) (sym (read_bit y w x hy l hx)))
      ∙ ap (λ (m : ℕ). any m (λ w. has (state_of b) y w x)) (sym top_is)

  -- whether a subject o has a controller other than itself
  pub some_other : (o : ℕ) → o < f.n → any f.n (row_has b o 1 o) ≡ other_controller (state_of b) (Subject o)
  unfolding row_has
  some_other o ho =
      any_same f.n (row_has b o 1 o) (λ w. (state_of b).controls w (Subject o) && not (eqb w o))
      (λ w l. ap (λ (t : Bool). not (eqb w o) && t) (sym (read_bit Control w (Subject o) tt l (lt-ltb o f.n ho))) ∙ and_comm (not (eqb w o)) ((state_of b).controls w (Subject o)))
      ∙ ap (λ (m : ℕ). any m (λ w. (state_of b).controls w (Subject o) && not (eqb w o))) (sym top_is)

-- a name of the record, by its kind
pub named_subject : {b : List ℕ} {f : Shape} {s : ℕ} {x : Name} → NameIn b f x → x ≡ Subject s → s < f.n
named_subject {f = f} {s = s} h e = ltb-true s f.n (subst (λ (x : Name). named f.n f.p x ≡ true) e h.column)

pub named_plain : {b : List ℕ} {f : Shape} {o : ℕ} {x : Name} → NameIn b f x → x ≡ Plain o → o < columns f
named_plain {f = f} {x = x} h e = subst (λ (x : Name). column_of x < columns f) e (named_below f.n f.p x h.column)

-- an object exists where the test t of its column for an owner passes
pub object_found : {b : List ℕ} {f : Shape} {o : ℕ} {t : Bool} {x : Name} → NameIn b f x → x ≡ Plain o → t ≡ any f.n (row_has b o 0 f.n) → t ≡ exists_name (state_of b) x
object_found {b} {f} {o} {x = x} h e g =
    let q : named f.n f.p (Plain o) ≡ true = subst (λ (x : Name). named f.n f.p x ≡ true) e h.column in
    g ∙ some_bit b f h.station Own (Plain o) tt q ∙ sym (ap (λ (x : Name). exists_name (state_of b) x) e)

-- in a valid record an object exists where a row's cell v over it is not zero
pub object_touched : {b : List ℕ} {f : Shape} {o w v : ℕ} {x : Name} → NameIn b f x → Valid (state_of b) → w < f.n → x ≡ Plain o → v ≡ cell_at b w o → (v ≡ 0 → ⊥) → true ≡ exists_name (state_of b) x
object_touched {b} {o = o} {w = w} {x = x} h valid l e g ne =
    let z : eqb (cell_at b w o) 0 ≡ false = ne_eqb (cell_at b w o) 0 (λ k. ne (g ∙ k)) in
    let found = any_found (bits_of (shape_of b)) (λ j. bit j (cell_at b w o)) (any_bit _ _ (cell_below b w o h.station.octets) ∙ ap not z) in
    let j = found.0 in
    let row : w < (shape_of b).n = rw (← h.station.shape) l in
    let named_in : named (shape_of b).n (shape_of b).p x ≡ true = rw (← h.station.shape) h.column in
    let set : has (state_of b) (right_of j) w x ≡ true =
    has_state b (right_of j) w x ∙ ap (λ (i : ℕ). bit_at b i w x) (code_of_right_of j)
    ∙ bit_at_named b j w x row named_in found.1
    ∙ ap (λ (y : Name). bit j (cell_at b w (column_of y))) e ∙ found.2 in
    sym (valid.column (right_of j) w x set)

-- the owner of a subject is what the search of its column finds
pub owner_is : {b : List ℕ} {f : Shape} {s : ℕ} {r : Option ℕ} → Station b f → s < f.n → r ≡ some_below f.n (least f.n (λ w. bit 0 (cell_at b w s)))
    → r ≡ some_below f.n (owner_of (state_of b).top (state_of b).owns s)
owner_is {b} {f} {s} h l g = g ∙ ap (some_below f.n) (search_bit b f h Own (Subject s) tt (lt-ltb s f.n l))

-- a row that passes the test t for own of a subject is its owner, where the record is valid
pub owner_guessed : {b owners : List ℕ} {f : Shape} {w : ℕ} {t : Bool} (v : ℕ) → Guessed b f owners → t ≡ (state_of b).owns w (Subject v) → t ≡ true → w ≡ owner_of (state_of b).top (state_of b).owns v
owner_guessed {w = w} v h e g = owner_same (valid_framed h.valid) w v (sym e ∙ g)
