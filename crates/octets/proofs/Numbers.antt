-- The library's numbers in bytes are those of the definitions: read from the bytes at a place, and put there.
use Rattle.std.specs.Prelude.{ℕ, zero, suc, ◌+◌, ◌/◌, ◌%◌, ◌≤◌, ◌≡◌, refl, List, [], ◌∷◌, ◌++◌, length, get_or, set, take, drop}
use Rattle.std.proofs.Common.{add-zero, zero-add, arith, sym, ◌∙◌, ap, ap₂, append_assoc, length-append, length-take-le, get_or-take, get_or-drop, length-drop, drop-cons}
use Rattle.std.proofs.Math.Nat.{div-div-eq-div-mul}
use Rattle.std.proofs.lemmas.List.{take-append-drop, set_at}
use Rattle.std.specs.Int.{w16, w32, w64, from_be_bytes, to_be_bytes}
use Rattle.matrix.specs.Bytes.{number_at, set_number, bytes_of_number}
use Rattle.codec.specs.Numbers.{number_at_agree, length_bytes_of_number}

-- ---- read

pub two_read : (b : List ℕ) (at : ℕ) → from_be_bytes w16 (get_or b at 0 ∷ get_or b (at + 1) 0 ∷ []) ≡ number_at b at 2
unfolding number_at
two_read b at = rw add-zero (omega arith)

pub four_read : (b : List ℕ) (at : ℕ) → from_be_bytes w32 (get_or b at 0 ∷ get_or b (at + 1) 0 ∷ get_or b (at + 2) 0 ∷ get_or b (at + 3) 0 ∷ []) ≡ number_at b at 4
unfolding number_at
four_read b at = rw add-zero (omega arith)

-- eight bytes, as a part of the list
eight_first : (l : List ℕ) → from_be_bytes w64 l ≡ number_at l 0 8
unfolding number_at
eight_first l = omega arith

pub eight_read : (b : List ℕ) (at : ℕ) {l : List ℕ} → l ≡ take 8 (drop at b) → from_be_bytes w64 l ≡ number_at b at 8
eight_read b at {l} e =
    eight_first l
    ∙ number_at_agree l b 0 at 8 (λ j h. ap (λ (x : List ℕ). get_or x (0 + j) 0) e ∙ ap (λ (i : ℕ). get_or (take 8 (drop at b)) i 0) (zero-add j) ∙ get_or-take 8 (drop at b) j 0 h ∙ get_or-drop at b j 0)

-- ---- stored

-- the bytes of a number between those before and after it
pub bytes_stored : (b : List ℕ) (at w v : ℕ) → at + w ≤ length b → take at b ++ (bytes_of_number w v ++ drop w (drop at b)) ≡ set_number b at w v
unfolding bytes_of_number set_number
bytes_stored b at zero v h = take-append-drop at b
bytes_stored b at (suc w) v h =
    whole ∙ sym (set_at (take at b ++ bytes_of_number w (v / 256)) _ _ (v % 256) (at + w) long) ∙ ap (λ (l : List ℕ). set l (at + w) (v % 256)) (front ∙ bytes_stored b at w (v / 256) (omega arith))
  where
    rest : List ℕ
    rest = drop (suc w) (drop at b)

    old : ℕ
    old = get_or (drop at b) w 0

    long : length (take at b ++ bytes_of_number w (v / 256)) ≡ at + w
    long = length-append (take at b) (bytes_of_number w (v / 256)) ∙ ap₂ (λ (x y : ℕ). x + y) (length-take-le at b (omega arith)) (length_bytes_of_number w (v / 256))

    whole : take at b ++ ((bytes_of_number w (v / 256) ++ (v % 256 ∷ [])) ++ rest) ≡ (take at b ++ bytes_of_number w (v / 256)) ++ (v % 256 ∷ rest)
    whole = simp append_assoc

    front : (take at b ++ bytes_of_number w (v / 256)) ++ (old ∷ rest) ≡ take at b ++ (bytes_of_number w (v / 256) ++ drop w (drop at b))
    front =
        append_assoc (take at b) (bytes_of_number w (v / 256)) (old ∷ rest)
        ∙ ap (λ (l : List ℕ). take at b ++ (bytes_of_number w (v / 256) ++ l)) (sym (drop-cons (drop at b) w 0 (simp length-drop (omega arith))))

two_bytes : (v : ℕ) → to_be_bytes w16 v ≡ bytes_of_number 2 v
unfolding bytes_of_number
two_bytes v = refl

four_bytes : (v : ℕ) → to_be_bytes w32 v ≡ bytes_of_number 4 v
unfolding bytes_of_number
four_bytes v =
    let e : v / 256 / 256 ≡ v / 65536 = div-div-eq-div-mul v 256 256 in
    let f : v / 65536 / 256 ≡ v / 16777216 = div-div-eq-div-mul v 65536 256 in
    rw (e, f) refl

pub two_stored : (b : List ℕ) (at v : ℕ) → at + 2 ≤ length b → take at b ++ (to_be_bytes w16 v ++ drop 2 (drop at b)) ≡ set_number b at 2 v
two_stored b at v h = ap (λ (l : List ℕ). take at b ++ (l ++ drop 2 (drop at b))) (two_bytes v) ∙ bytes_stored b at 2 v h

pub four_stored : (b : List ℕ) (at v : ℕ) → at + 4 ≤ length b → take at b ++ (to_be_bytes w32 v ++ drop 4 (drop at b)) ≡ set_number b at 4 v
four_stored b at v h = ap (λ (l : List ℕ). take at b ++ (l ++ drop 4 (drop at b))) (four_bytes v) ∙ bytes_stored b at 4 v h

-- what is above a number's bytes is not stored
pub two_cut : (b : List ℕ) (at v : ℕ) → set_number b at 2 (v % 65536) ≡ set_number b at 2 v
unfolding set_number
two_cut b at v =
    let e : v % 65536 / 256 % 256 ≡ v / 256 % 256 = omega arith in
    let f : v % 65536 % 256 ≡ v % 256 = omega arith in
    rw (e, f) refl

pub four_cut : (b : List ℕ) (at v : ℕ) → set_number b at 4 (v % 4294967296) ≡ set_number b at 4 v
unfolding set_number
four_cut b at v =
    let e : v % 4294967296 / 256 / 256 / 256 % 256 ≡ v / 256 / 256 / 256 % 256 = omega arith in
    let f : v % 4294967296 / 256 / 256 % 256 ≡ v / 256 / 256 % 256 = omega arith in
    let g : v % 4294967296 / 256 % 256 ≡ v / 256 % 256 = omega arith in
    let h : v % 4294967296 % 256 ≡ v % 256 = omega arith in
    rw (e, f, g, h) refl
