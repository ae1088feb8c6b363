-- The bytes of a row cleared all at once: the row's cells are cleared, one after another.
use Rattle.std.specs.Prelude.{ℕ, zero, suc, ◌+◌, ◌*◌, ◌≤◌, ◌<◌, ◌≡◌, refl, List, [], ◌∷◌, ◌++◌, length, take, drop, replicate}
use Rattle.std.proofs.Common.{arith, sym, ◌∙◌, ap, ap₂, subst, append_assoc, drop-drop, le_refl, add-one}
use Rattle.std.proofs.lemmas.List.{take-append-drop, replicate-append-replicate, length-replicate}
use Rattle.std.proofs.lemmas.Slice.{take-put_mid, drop-put_mid}
use borrow.Rule.Slice.PartMut.{put_mid}
use Rattle.matrix.specs.declared.Shape.{Shape}
use Rattle.matrix.specs.Bytes.{set_number, bytes_of_number}
use Rattle.matrix.specs.Shape.{columns, cell_place}
use Rattle.matrix.specs.State.{clear}
use Rattle.matrix.specs.Reading.{set_cell, state_of}
use Rattle.cells.specs.Station.{Station, Cell, right_shape}
use Rattle.cells.specs.Places.{row_bytes, place_below, cell_stored}
use Rattle.octets.proofs.Numbers.{bytes_stored}
use Rattle.bits.specs.Became.{Became}
use Rattle.bits.specs.Passed.{in_row, row_part}
use Rattle.bits.specs.Steps.{became_at, cell_after}
use Rattle.bits.specs.Loops.{row_none, row_next, row_all}

-- k bytes from `at` on cleared
abbrev pub zeroed : List ℕ → ℕ → ℕ → List ℕ
zeroed b at k = put_mid at k b (replicate k 0)

-- the bytes of the number 0
bytes_of_zero : (w : ℕ) → bytes_of_number w 0 ≡ replicate w 0
unfolding bytes_of_number
bytes_of_zero zero = refl
bytes_of_zero (suc w) = ap (λ (l : List ℕ). l ++ (0 ∷ [])) (bytes_of_zero w) ∙ replicate-append-replicate w 1 0 ∙ (let e : w + 1 ≡ suc w = omega arith in ap (λ (k : ℕ). replicate k 0) e)

-- the w bytes after them cleared too
zeroed_more : (b : List ℕ) (at k w : ℕ) → at ≤ length b → at + k + w ≤ length (zeroed b at k) → set_number (zeroed b at k) (at + k) w 0 ≡ zeroed b at (k + w)
zeroed_more b at k w l h = sym (bytes_stored (zeroed b at k) (at + k) w 0 h) ∙ ap₂ {C = List ℕ} (λ x y. x ++ y) front back ∙ whole
  where
    few : length {A = ℕ} (replicate k 0) ≡ k
    few = length-replicate k 0

    front : take (at + k) (zeroed b at k) ≡ take at b ++ replicate k 0
    front = take-put_mid at k b (replicate k 0) (at + k) (ap (λ (n : ℕ). at + n) (sym few)) l

    rest : drop w (drop (at + k) (zeroed b at k)) ≡ drop (k + w) (drop at b)
    rest =
        drop-drop w (at + k) (zeroed b at k) ∙ drop-put_mid at k b (replicate k 0) (at + k + w) (omega arith) l few
        ∙ ap (λ (n : ℕ). drop n b) (omega arith) ∙ sym (drop-drop (k + w) at b)

    back : bytes_of_number w 0 ++ drop w (drop (at + k) (zeroed b at k)) ≡ replicate w 0 ++ drop (k + w) (drop at b)
    back = ap₂ {C = List ℕ} (λ x y. x ++ y) (bytes_of_zero w) rest

    whole : (take at b ++ replicate k 0) ++ (replicate w 0 ++ drop (k + w) (drop at b)) ≡ zeroed b at (k + w)
    whole =
        append_assoc (take at b) (replicate k 0) (replicate w 0 ++ drop (k + w) (drop at b))
        ∙ ap (λ (x : List ℕ). take at b ++ x) (sym (append_assoc (replicate k 0) (replicate w 0) (drop (k + w) (drop at b))))
        ∙ ap (λ (x : List ℕ). take at b ++ (x ++ drop (k + w) (drop at b))) (replicate-append-replicate k w 0)

-- a row of a record
module _ {b : List ℕ} {f : Shape} (s : Station b f) (r : ℕ) (row : r < f.n) where
  abbrev at : ℕ
  at = cell_place f r 0

  first : at ≤ length b
  first = omega (arith, place_below b f s r 0 row (omega (arith, (right_shape s).low)))

  -- one more of its cells
  cleared_more : (c : ℕ) → c < columns f → Became b (zeroed b at (f.width * c)) (clear (row_part f.n r c) (state_of b))
      → Became b (zeroed b at (f.width * (c + 1))) (clear (row_part f.n r (c + 1)) (state_of b))
  cleared_more c h before = row_next r before cell step
    where
      cell : Cell (zeroed b at (f.width * c)) f r c
      cell = cell_after s before row h

      further : (a w x : ℕ) → a + w * (x + c) ≡ a + w * (x + 0) + w * c
      further a w x = omega arith

      place : cell_place f r c ≡ at + f.width * c
      place = further f.first f.width (r * columns f)

      wider : (w : ℕ) → w * (c + 1) ≡ w * c + w
      wider w = omega arith

      long : at + f.width * c + f.width ≤ length (zeroed b at (f.width * c))
      long = subst (λ (i : ℕ). i + f.width ≤ length (zeroed b at (f.width * c))) place (place_below _ f cell.station r c row h)

      step : zeroed b at (f.width * (c + 1)) ≡ set_cell (zeroed b at (f.width * c)) r c 0
      step =
          ap (zeroed b at) (wider f.width) ∙ sym (zeroed_more b at (f.width * c) f.width first long)
          ∙ ap (λ (i : ℕ). set_number (zeroed b at (f.width * c)) i f.width 0) (sym place) ∙ cell_stored _ f cell.station r c 0 refl

  -- its first c cells
  cleared_so_far : (c : ℕ) → c ≤ columns f → Became b (zeroed b at (f.width * c)) (clear (row_part f.n r c) (state_of b))
  cleared_so_far zero h = let none : f.width * 0 ≡ 0 = omega arith in became_at (ap (zeroed b at) none ∙ take-append-drop at b) (row_none r s)
  cleared_so_far (suc c) h = rw (← add-one) (cleared_more c (omega arith) (cleared_so_far c (omega arith)))

  pub row_cleared : Became b (zeroed b at (row_bytes f)) (clear (in_row r) (state_of b))
  row_cleared = row_all r s refl (cleared_so_far (columns f) (le_refl (columns f)))
