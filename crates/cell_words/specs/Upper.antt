-- What a cell of two bytes has no room for: the upper half of a cell of four.
use Rattle.std.specs.Prelude.{ℕ, ◌+◌, ◌*◌, ◌/◌, ◌%◌, ◌^◌, ◌≤◌, ◌<◌, ◌≡◌, refl, Bool, true, false, not, ◌&&◌, List, eqb, ltb}
use Rattle.std.proofs.Common.{add-one, arith, sym, ◌∙◌, ap, ap₂, subst, ⊎_elim, eqb-true, eq-eqb, ltb-true, lt-ltb}
use Rattle.std.proofs.Math.Arith.{digits_lt}
use Rattle.std.specs.Int.Bits.{bit_or, or_add_and}
use Rattle.std.proofs.lemmas.Nat.{or_mod, and_le_l, and_le_r}
use Rattle.matrix.specs.declared.Form.{Form}
use Rattle.matrix.specs.declared.Form.TheVariants.{Plain, Starred}
use Rattle.matrix.specs.declared.Right.TheVariants.{Basic}
use Rattle.matrix.specs.declared.Shape.{Shape}
use Rattle.matrix.specs.Bounded.{all}
use Rattle.matrix.specs.Names.{name_of}
use Rattle.matrix.specs.Rights.{code_of}
use Rattle.matrix.specs.State.{has}
use Rattle.matrix.specs.Bytes.{number_at}
use Rattle.matrix.specs.Shape.{columns, bits_of, basics_of}
use Rattle.matrix.specs.Reading.{cell_at, state_of}
use Rattle.matrix.specs.Converting.{basic_from}
use Rattle.laws.specs.Tests.{way, clash, holds, same_test, and_left, and_right, and_both}
use Rattle.laws.specs.Bounded.{all_each, each_all}
use Rattle.laws.specs.Basics.{SetFrom, basic_none}
use Rattle.codec.specs.ShapeRight.{ShapeRight}
use Rattle.codec.proofs.ShapeRight.{two_or_four}
use Rattle.codec.specs.Bits.{bit_beyond}
use Rattle.codec.specs.Codes.{code_of_room}
use Rattle.codec.specs.Update.{bit_read}
use Rattle.codec.specs.OtherShape.{cell_fits}
use Rattle.cells.specs.Station.{right_shape}
use Rattle.cell_words.specs.Wanted.{Wanted, wanted_right, within_wanted}
use Rattle.cell_words.specs.Places.{cells_of, place_of, row_of, column_of, number_of, cell_numbered}
use Rattle.cell_words.specs.Words.{Turned, lower_clear, upper_clear}

-- the cell numbered k is a number of two bytes
abbrev pub small_at : List ℕ → Shape → ℕ → Bool
small_at b f k = ltb (number_at b (place_of f k) f.width) 65536

-- ---- the loop

-- numbers joined are 0 where both are
or_clear : (x y : ℕ) → eqb (bit_or x y) 0 ≡ (eqb x 0 && eqb y 0)
or_clear x y =
    same_test (eqb (bit_or x y) 0) (eqb x 0 && eqb y 0)
    (λ t. let e : bit_or x y ≡ 0 = eqb-true (bit_or x y) 0 t in
    and_both (eq-eqb x 0 (omega (arith, or_add_and x y, and_le_r x y))) (eq-eqb y 0 (omega (arith, or_add_and x y, and_le_l x y))))
    (λ t. let p : x ≡ 0 = eqb-true x 0 (and_left (eqb x 0) (eqb y 0) t) in
    let q : y ≡ 0 = eqb-true y 0 (and_right (eqb x 0) (eqb y 0) t) in
    eq-eqb (bit_or x y) 0 (omega (arith, or_add_and x y)))

-- the word of a number of two bytes has a lower half that is clear
word_clear : (v m : ℕ) → Turned v m → eqb (v % 65536) 0 ≡ ltb m 65536
word_clear v m t =
    same_test (eqb (v % 65536) 0) (ltb m 65536) (λ h. lt-ltb m 65536 (lower_clear v m t (eqb-true (v % 65536) 0 h)))
    (λ h. eq-eqb (v % 65536) 0 (upper_clear v m t (ltb-true m 65536 h)))

-- one cell more
pub small_next : (b : List ℕ) (f : Shape) (seen v k : ℕ) {at : ℕ} → eqb (seen % 65536) 0 ≡ all k (small_at b f) → at ≡ place_of f k
    → Turned v (number_at b at f.width) → eqb (bit_or seen v % 65536) 0 ≡ all (k + 1) (small_at b f)
unfolding all
small_next b f seen v k {at} h e t =
    rw add-one
    (ap (λ (x : ℕ). eqb x 0) (or_mod seen v 16) ∙ or_clear (seen % 65536) (v % 65536)
    ∙ ap₂ (λ (t u : Bool). t && u) h (word_clear v (number_at b at f.width) t ∙ ap (λ (i : ℕ). ltb (number_at b i f.width) 65536) e))

-- ---- what is found

-- a shape with cells as wide as the record's has room for all
pub none_wider : (b : List ℕ) (f g : Shape) → f.width ≤ g.width → basic_from (basics_of g) f (state_of b) ≡ false
none_wider b f g h =
    basic_none (basics_of g) f (state_of b)
    (λ s. let l : s.k < basics_of f = s.room in let u : basics_of g ≤ s.k = s.high in omega arith)

module _ {b : List ℕ} {f g : Shape} (h : Wanted b f g) (wider : g.width < f.width) where
  two : g.width ≡ 2
  two =
      ⊎_elim (λ (e : g.width ≡ 2). e) (λ (e : g.width ≡ 4). absurd (omega (arith, wider, (right_shape h.station).width_most)))
      (two_or_four g (wanted_right h))

  -- where every cell is a number of two bytes, no such right is set
  small_none : all (cells_of f) (small_at b f) ≡ true → basic_from (basics_of g) f (state_of b) ≡ false
  small_none t = basic_none (basics_of g) f (state_of b) (λ s. clash s.set (unset s))
    where
      small : (r c : ℕ) → r < f.n → c < columns f → cell_at b r c < 65536
      small r c row column =
          let k = r * columns f + c in
          subst (λ (m : ℕ). m < 65536) (cell_numbered h.station r c refl)
          (ltb-true (number_at b (place_of f k) f.width) 65536 (all_each (cells_of f) (small_at b f) t k (digits_lt row column)))

      high : (k : ℕ) (y : Form) → basics_of g ≤ k → 16 ≤ code_of (Basic k y)
      high k Plain l = omega (arith, two)
      high k Starred l = omega (arith, two)

      unset : (s : SetFrom (basics_of g) f (state_of b)) → (state_of b).basic s.k s.form s.w (name_of f.n s.c) ≡ false
      unset s =
          let e = h.station.shape in
          let y = Basic s.k s.form in
          ap (λ (m : Shape). has (state_of b) y s.w (name_of m.n s.c)) e
          ∙ bit_read b s.w s.c (subst (λ (m : Shape). s.w < m.n) e s.row) (subst (λ (m : Shape). s.c < columns m) e s.column) y
          (subst (λ (m : Shape). code_of y < bits_of m) e (code_of_room f.width s.k s.form s.room))
          ∙ bit_beyond 16 (code_of y) (cell_at b s.w s.c) (small s.w s.c s.row s.column) (high s.k s.form s.high)

  -- and the other way round
  none_small : basic_from (basics_of g) f (state_of b) ≡ false → all (cells_of f) (small_at b f) ≡ true
  none_small none = each_all (cells_of f) (small_at b f) (λ k l. lt-ltb (number_at b (place_of f k) f.width) 65536 (small k l))
    where
      right : ShapeRight f
      right = right_shape h.station

      small : (k : ℕ) → k < cells_of f → number_at b (place_of f k) f.width < 65536
      small k l =
          let e = h.station.shape in
          let r = k / columns f in
          let c = k % columns f in
          subst (λ (m : ℕ). m < 65536) (sym (cell_numbered h.station r c (number_of f right k l)))
          (subst (λ (w : ℕ). cell_at b r c < 2 ^ (8 * w)) two
          (cell_fits b h.station.octets g (within_wanted h none) r c (subst (λ (m : Shape). r < m.n) e (row_of f right k l))
          (subst (λ (m : Shape). c < columns m) e (column_of f right k l))))

  pub upper_answer : not (all (cells_of f) (small_at b f)) ≡ basic_from (basics_of g) f (state_of b)
  upper_answer =
      ⊎_elim (λ (t : all (cells_of f) (small_at b f) ≡ true). rw t (sym (small_none t)))
      (λ (t : all (cells_of f) (small_at b f) ≡ false). rw t (sym (holds (basic_from (basics_of g) f (state_of b)) (λ n. clash (none_small n) t))))
      (way (all (cells_of f) (small_at b f)))
