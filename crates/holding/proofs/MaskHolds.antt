-- What is claimed of the mask of a right, proved: which bits it has, and what a bit says that a cell shares with it.
use Rattle.std.specs.Prelude.{ℕ, zero, suc, ◌+◌, ◌*◌, ◌/◌, ◌%◌, ◌^◌, ◌<◌, ◌≡◌, refl, Bool, true, false, ◌||◌, List, [], ◌∷◌, ◌++◌, eqb}
use Rattle.std.proofs.Common.{arith, sym, ◌∙◌, ap, ap₂, subst, ⊎_elim, pow_pos, eqb-true}
use Rattle.std.proofs.Math.Bool.{or-false}
use Rattle.std.specs.Int.Bits.{bit_or}
use Rattle.std.proofs.lemmas.Nat.{or_lt}
use Rattle.std.proofs.Math.Pow.{pow-lt}
use Rattle.std.proofs.lemmas.Bool.{eqb-false}
use Rattle.matrix.specs.declared.Name.{Name}
use Rattle.matrix.specs.declared.Form.TheVariants.{Plain, Starred}
use Rattle.matrix.specs.declared.Right.{Right}
use Rattle.matrix.specs.declared.Right.TheVariants.{Own, Control, Basic}
use Rattle.matrix.specs.declared.Shape.{Shape}
use Rattle.matrix.specs.Names.{name_of}
use Rattle.matrix.specs.Rights.{right_of, held_by}
use Rattle.matrix.specs.State.{has, held}
use Rattle.matrix.specs.Bytes.{bit}
use Rattle.matrix.specs.Shape.{shape_of, bits_of}
use Rattle.matrix.specs.Reading.{cell_at, state_of, cell_of}
use Rattle.matrix.specs.Calls.{holds_on}
use Rattle.laws.specs.Tests.{way, same_test}
use Rattle.laws.specs.BitOps.{bit_or_lem}
use Rattle.codec.specs.Bits.{bit_zero, bit_power, from_bits_bit, from_bits_same, from_bits_below, bit_from_bits}
use Rattle.codec.specs.RoundTrip.{cell_read}
use Rattle.cells.specs.Station.{Cell}
use Rattle.holding.specs.Mask.{basic_digit, starred_code, mask_of, code_among, shares, MaskIs, HeldShares}
use Rattle.holding.specs.MaskHolds.{among_either, basic_digit_lem, bit_inside, both_codes, code_set, one_code, set_code, shares_found, shares_hit, starred_odd}

-- the bits are those of two codes and of the digit
mask_parts : (c j : ℕ) → bit j (mask_of c) ≡ ((eqb j c || eqb j (starred_code c)) || bit j (basic_digit c))
unfolding mask_of
mask_parts c j =
    bit_or_lem j (bit_or (2 ^ c) (2 ^ starred_code c)) (basic_digit c)
    ∙ ap (λ (t : Bool). t || bit j (basic_digit c))
    (bit_or_lem j (2 ^ c) (2 ^ starred_code c) ∙ ap₂ (λ (t u : Bool). t || u) (bit_power j c) (bit_power j (starred_code c)))

-- which for own and control has no bit, and for a basic right that of own
two_bits : (c j : ℕ) → basic_digit c ≡ 0 → bit j (mask_of c) ≡ (eqb j c || eqb j (starred_code c))
two_bits c j e =
    mask_parts c j ∙ ap (λ (d : ℕ). (eqb j c || eqb j (starred_code c)) || bit j d) e
    ∙ ap (λ (t : Bool). (eqb j c || eqb j (starred_code c)) || t) (bit_zero j) ∙ or-false (eqb j c || eqb j (starred_code c))

own_bit : (c j : ℕ) → 1 < c → bit j (basic_digit c) ≡ code_among j (Own ∷ [])
own_bit c j l = ap (bit j) (basic_digit_lem c l) ∙ bit_power j 0 ∙ sym (or-false (eqb j 0))

-- so they are those of the rights that make the code's right held
mask_bits : (c j : ℕ) → bit j (mask_of c) ≡ code_among j (held_by (right_of c))
mask_bits zero j = two_bits 0 j refl ∙ one_code j 0 (starred_code 0) Own refl refl
mask_bits (suc zero) j = two_bits 1 j refl ∙ one_code j 1 (starred_code 1) Control refl refl
mask_bits (suc (suc i)) j =
    mask_parts (suc (suc i)) j ∙ ap (λ (t : Bool). (eqb j c || eqb j (starred_code c)) || t) (own_bit c j (omega arith))
    ∙ ⊎_elim plain starred (way (eqb (i % 2) 0))
  where
    c : ℕ
    c = suc (suc i)

    -- the forms of the right, and own beside them
    with_own : (ys : List Right) → (eqb j c || eqb j (starred_code c)) ≡ code_among j ys
        → ((eqb j c || eqb j (starred_code c)) || code_among j (Own ∷ [])) ≡ code_among j (ys ++ (Own ∷ []))
    with_own ys e = ap (λ (t : Bool). t || code_among j (Own ∷ [])) e ∙ among_either j ys (Own ∷ [])

    odd : starred_code c ≡ c / 2 * 2 + 1
    odd = starred_odd c (omega arith)

    plain : eqb (i % 2) 0 ≡ true → ((eqb j c || eqb j (starred_code c)) || code_among j (Own ∷ [])) ≡ code_among j (held_by (right_of c))
    plain h =
        rw h
        (with_own (Basic (i / 2) Plain ∷ Basic (i / 2) Starred ∷ [])
        (both_codes j c (starred_code c) (Basic (i / 2) Plain) (Basic (i / 2) Starred) (omega (arith, eqb-true (i % 2) 0 h))
        (omega (arith, odd, eqb-true (i % 2) 0 h))))

    starred : eqb (i % 2) 0 ≡ false → ((eqb j c || eqb j (starred_code c)) || code_among j (Own ∷ [])) ≡ code_among j (held_by (right_of c))
    starred h =
        rw h
        (with_own (Basic (i / 2) Starred ∷ [])
        (one_code j c (starred_code c) (Basic (i / 2) Starred) (omega (arith, eqb-false (i % 2) 0 h))
        (omega (arith, odd, eqb-false (i % 2) 0 h))))

-- where the code is one of the bits of a cell of w bytes, so is that of the starred form
pub starred_below : (w c : ℕ) → c < 8 * w → starred_code c < 8 * w
starred_below w zero h = omega arith
starred_below w (suc zero) h = omega arith
starred_below w (suc (suc i)) h = omega (arith, starred_odd (suc (suc i)) (omega arith))

-- and so is bit 0
digit_below : (w c : ℕ) → c < 8 * w → basic_digit c < 2 ^ (8 * w)
digit_below w zero h = pow_pos (8 * w)
digit_below w (suc zero) h = pow_pos (8 * w)
digit_below w (suc (suc i)) h =
    let first : 0 < 8 * w = omega arith in
    let one : 2 ^ 0 < 2 ^ (8 * w) = pow-lt first in
    subst (λ (d : ℕ). d < 2 ^ (8 * w)) (sym (basic_digit_lem (suc (suc i)) (omega arith))) one

mask_below : (w c : ℕ) → c < 8 * w → mask_of c < 2 ^ (8 * w)
unfolding mask_of
mask_below w c h =
    or_lt (8 * w) (bit_or (2 ^ c) (2 ^ starred_code c)) (basic_digit c)
    (or_lt (8 * w) (2 ^ c) (2 ^ starred_code c) (pow-lt h) (pow-lt (starred_below w c h))) (digit_below w c h)

pub mask_is : MaskIs
mask_is w c h =
    sym (from_bits_bit (8 * w) (mask_of c) (mask_below w c h))
    ∙ from_bits_same (8 * w) (λ j. bit j (mask_of c)) (λ j. code_among j (held_by (right_of c))) (λ j l. mask_bits c j)

pub held_shares : HeldShares
held_shares f S w c right h = same_test (held S (right_of right) w x) (shares cell (mask_of right)) shared set
  where
    x : Name
    x = name_of f.n c

    cell : ℕ
    cell = cell_of f S w c

    -- a bit of the cell is that of the right of its number
    bit_of : (j : ℕ) → j < bits_of f → bit j cell ≡ has S (right_of j) w x
    bit_of j l = bit_from_bits (bits_of f) (λ j. has S (right_of j) w x) j l

    shared : held S (right_of right) w x ≡ true → shares cell (mask_of right) ≡ true
    shared g =
        let r = set_code S w x (held_by (right_of right)) g in
        let m : bit r.0 (mask_of right) ≡ true = mask_bits right r.0 ∙ r.1 in
        let l : r.0 < bits_of f = bit_inside (bits_of f) r.0 (mask_of right) (mask_below f.width right h) m in
        shares_hit r.0 cell (mask_of right) (bit_of r.0 l ∙ r.2) m

    set : shares cell (mask_of right) ≡ true → held S (right_of right) w x ≡ true
    set g =
        let r = shares_found (bits_of f) cell (mask_of right) (from_bits_below (bits_of f) (λ j. has S (right_of j) w x)) g in
        code_set S w x (held_by (right_of right)) r.0 (sym (mask_bits right r.0) ∙ r.3) (sym (bit_of r.0 r.1) ∙ r.2)

-- the same on a record, where v is the cell that is read and m the mask
pub held_on_record : {b : List ℕ} {f : Shape} {s o right v m : ℕ} → Cell b f s o → right < bits_of f → v ≡ cell_at b s o → m ≡ mask_of right → shares v m ≡ holds_on b s o right
held_on_record {b} {f} {s} {o} {right} h l e g =
    let shape = h.station.shape in
    ap₂ (λ (v m : ℕ). shares v m) (e ∙ sym (cell_read b h.station.shaped h.station.octets s o (rw (← shape) h.row) (rw (← shape) h.column))) g
    ∙ sym (held_shares (shape_of b) (state_of b) s o right (rw (← shape) l))
