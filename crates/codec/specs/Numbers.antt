-- Laws of big-endian numbers in a list of bytes, over their width: what is stored is read back, nothing else changes, and the bytes of a
-- number stand in the list as they are.
use Rattle.std.specs.Prelude.{ℕ, zero, suc, ◌+◌, ◌-◌, ◌*◌, ◌/◌, ◌%◌, ◌^◌, ◌≤◌, ◌<◌, ◌≡◌, refl, true, false, List, [], ◌∷◌, ◌++◌, eqb, ltb, length, get_or, set, take, drop}
use Rattle.std.proofs.Common.{add-zero, zero-add, not-suc-le-zero, mod-lt, div-lt_iff_lt-mul, div-add-mod', pow-suc, div-one, arith, sym, ◌∙◌, ap, ap₂, subst, ⊎_elim, append_assoc, length-set, length-append, length-drop, get_or-set_same, get_or-set_other, get_or-take, get_or-drop, length-take-le, ext_get_or, pow-add, eqb-true, ltb-true, ltb-false}
use Rattle.std.proofs.Math.Nat.{pow-succ', div-div-eq-div-mul}
use Rattle.std.proofs.Math.ListN.{get_or-append, get_or-eq_default}
use Rattle.std.proofs.Math.Seq.{set_out}
use Rattle.std.proofs.lemmas.List.{get_or_at}
use Rattle.std.proofs.Math.Arith.{digits_div, digits_mod, digits_lt}
use Rattle.std.proofs.lemmas.Bool.{eqb-false}
use Rattle.matrix.specs.Bytes.{number_at, set_number, bytes_of_number}
use Rattle.matrix.specs.Shaped.{Octets}
use Rattle.laws.specs.Tests.{way}
use Rattle.laws.specs.Bounded.{below_suc}

-- a number is what stands at its places
pub number_at_agree : (a b : List ℕ) (at to w : ℕ) → ((j : ℕ) → j < w → get_or a (at + j) 0 ≡ get_or b (to + j) 0)
    → number_at a at w ≡ number_at b to w
unfolding number_at
number_at_agree a b at to zero h = refl
number_at_agree a b at to (suc w) h =
    ap₂ (λ (x y : ℕ). x * 256 + y) (number_at_agree a b at to w (λ j l. h j (omega arith))) (h w (omega arith))

-- ---- storing a number

pub length_set_number : (b : List ℕ) (at w v : ℕ) → length (set_number b at w v) ≡ length b
unfolding set_number
length_set_number b at zero v = refl
length_set_number b at (suc w) v = length-set (set_number b at w (v / 256)) (at + w) (v % 256) ∙ length_set_number b at w (v / 256)

-- another place than those from `at` on
pub get_or_set_number_other : (b : List ℕ) (at w v i : ℕ) → (at ≤ i → i < at + w → ⊥) → get_or (set_number b at w v) i 0 ≡ get_or b i 0
unfolding set_number
get_or_set_number_other b at zero v i h = refl
get_or_set_number_other b at (suc w) v i h =
    get_or-set_other (set_number b at w (v / 256)) (at + w) i (v % 256) 0 (λ e. h (omega arith) (omega arith))
    ∙ get_or_set_number_other b at w (v / 256) i (λ l u. h l (omega arith))

-- a number that ends before the stored one begins, or begins after it ends
pub number_at_set_other : (b : List ℕ) (at w v to u : ℕ) → (at < to + u → to < at + w → ⊥)
    → number_at (set_number b at w v) to u ≡ number_at b to u
number_at_set_other b at w v to u h =
    number_at_agree (set_number b at w v) b to to u (λ j l. get_or_set_number_other b at w v (to + j) (λ p q. h (omega arith) (omega arith)))

pub number_at_set_same : (b : List ℕ) (at w v : ℕ) → at + w ≤ length b → v < 256 ^ w → number_at (set_number b at w v) at w ≡ v
unfolding set_number number_at
number_at_set_same b at zero v h l = omega arith
number_at_set_same b at (suc w) v h l =
    ap₂ (λ (x y : ℕ). x * 256 + y) (high ∙ number_at_set_same b at w (v / 256) (omega arith) below) low ∙ div-add-mod' v 256
  where
    front : List ℕ
    front = set_number b at w (v / 256)

    high : number_at (set front (at + w) (v % 256)) at w ≡ number_at front at w
    high = number_at_agree (set front (at + w) (v % 256)) front at at w (λ j k. get_or-set_other front (at + w) (at + j) (v % 256) 0 (omega arith))

    below : v / 256 < 256 ^ w
    below = (div-lt_iff_lt-mul {k = 256} (omega arith)).1 (rw pow-suc at l)

    low : get_or (set front (at + w) (v % 256)) (at + w) 0 ≡ v % 256
    low = get_or-set_same front (at + w) (v % 256) 0 (let e : length front ≡ length b = length_set_number b at w (v / 256) in omega arith)

-- a byte, and a number of bytes, stored where it stands
pub set_same : (l : List ℕ) (i : ℕ) → set l i (get_or l i 0) ≡ l
set_same [] i = refl
set_same (x ∷ xs) zero = refl
set_same (x ∷ xs) (suc i) = ap (λ (r : List ℕ). x ∷ r) (set_same xs i)

pub number_stored : (b : List ℕ) (at w : ℕ) → Octets b → set_number b at w (number_at b at w) ≡ b
unfolding set_number number_at
number_stored b at zero o = refl
number_stored b at (suc w) o =
    ap₂ (λ (x y : ℕ). set (set_number b at w x) (at + w) y) (digits_div (number_at b at w) (o.octet (at + w))) (digits_mod (number_at b at w) (o.octet (at + w)))
    ∙ ap (λ (l : List ℕ). set l (at + w) (get_or b (at + w) 0)) (number_stored b at w o) ∙ set_same b (at + w)

-- ---- a number of two bytes

pub two_read : (b : List ℕ) (at : ℕ) → number_at b at 2 ≡ get_or b at 0 * 256 + get_or b (at + 1) 0
unfolding number_at
two_read b at = rw add-zero (simp zero-add)

pub two_stored : (b : List ℕ) (at v : ℕ) → set_number b at 2 v ≡ set (set b at (v / 256 % 256)) (at + 1) (v % 256)
unfolding set_number
two_stored b at v = rw add-zero refl

-- ---- a number of four bytes is two numbers of two

pub four_read : (b : List ℕ) (at : ℕ) → number_at b at 4 ≡ number_at b at 2 * 65536 + number_at b (at + 2) 2
unfolding number_at
four_read b at =
    let e : at + 2 + 0 ≡ at + 2 = omega arith in
    let f : at + 2 + 1 ≡ at + 3 = omega arith in
    rw (e, f) (omega arith)

pub four_stored : (b : List ℕ) (at v : ℕ) → set_number b at 4 v ≡ set_number (set_number b at 2 (v / 65536)) (at + 2) 2 v
unfolding set_number
four_stored b at v =
    let e : at + 2 + 0 ≡ at + 2 = omega arith in
    let f : at + 2 + 1 ≡ at + 3 = omega arith in
    let g : v / 256 / 256 ≡ v / 65536 = div-div-eq-div-mul v 256 256 in
    rw (e, f, g) refl

-- ---- bytes stay bytes

octets_set_byte : (b : List ℕ) (i v : ℕ) → v < 256 → Octets b → Octets (set b i v)
octets_set_byte b i v h o = record { octet = λ j. each j }
  where
    here : get_or (set b i v) i 0 < 256
    here =
        ⊎_elim (λ (l : ltb i (length b) ≡ true). subst (λ (x : ℕ). x < 256) (sym (get_or-set_same b i v 0 (ltb-true i (length b) l))) h)
        (λ (l : ltb i (length b) ≡ false). subst (λ (c : List ℕ). get_or c i 0 < 256) (sym (set_out b i v (ltb-false i (length b) l))) (o.octet i))
        (way (ltb i (length b)))

    each : (j : ℕ) → get_or (set b i v) j 0 < 256
    each j =
        ⊎_elim (λ (e : eqb j i ≡ true). subst (λ (k : ℕ). get_or (set b i v) k 0 < 256) (sym (eqb-true j i e)) here)
        (λ (e : eqb j i ≡ false). subst (λ (x : ℕ). x < 256) (sym (get_or-set_other b i j v 0 (eqb-false j i e))) (o.octet j)) (way (eqb j i))

pub octets_set_number : (b : List ℕ) (at w v : ℕ) → Octets b → Octets (set_number b at w v)
unfolding set_number
octets_set_number b at zero v o = o
octets_set_number b at (suc w) v o =
    octets_set_byte (set_number b at w (v / 256)) (at + w) (v % 256) (mod-lt v (omega arith)) (octets_set_number b at w (v / 256) o)

pub number_at_below : (b : List ℕ) (at w : ℕ) → Octets b → number_at b at w < 256 ^ w
unfolding number_at
number_at_below b at zero o = omega arith
number_at_below b at (suc w) o = rw (pow-suc 256 w) (digits_lt (number_at_below b at w o) (o.octet (at + w)))

-- w bytes are 8 w bits
pub pow_bytes : (w : ℕ) → 256 ^ w ≡ 2 ^ (8 * w)
pow_bytes zero = refl
pow_bytes (suc w) =
    let e : 8 * suc w ≡ 8 * w + 8 = omega arith in
    pow-suc 256 w ∙ ap (λ (x : ℕ). x * 256) (pow_bytes w) ∙ sym (ap (λ (x : ℕ). 2 ^ x) e ∙ pow-add 2 (8 * w) 8)

-- ---- the bytes of a number

pub length_bytes_of_number : (w v : ℕ) → length (bytes_of_number w v) ≡ w
unfolding bytes_of_number
length_bytes_of_number zero v = refl
length_bytes_of_number (suc w) v =
    let e : length (bytes_of_number w (v / 256)) ≡ w = length_bytes_of_number w (v / 256) in
    length-append (bytes_of_number w (v / 256)) (v % 256 ∷ []) ∙ (omega arith)

-- in a list they are read as the number
pub number_at_bytes : (xs : List ℕ) (w v : ℕ) (ys : List ℕ) → v < 256 ^ w → number_at (xs ++ bytes_of_number w v ++ ys) (length xs) w ≡ v
unfolding bytes_of_number number_at
number_at_bytes xs zero v ys l = omega arith
number_at_bytes xs (suc w) v ys l =
    subst (λ (z : List ℕ). number_at z (length xs) (suc w) ≡ v) (sym whole)
    (ap₂ (λ (x y : ℕ). x * 256 + y) (number_at_bytes xs w (v / 256) (v % 256 ∷ ys) below) last ∙ div-add-mod' v 256)
  where
    whole : xs ++ (bytes_of_number w (v / 256) ++ (v % 256 ∷ [])) ++ ys ≡ xs ++ bytes_of_number w (v / 256) ++ (v % 256 ∷ ys)
    whole = simp append_assoc

    below : v / 256 < 256 ^ w
    below = (div-lt_iff_lt-mul {k = 256} (omega arith)).1 (rw pow-suc at l)

    last : get_or (xs ++ bytes_of_number w (v / 256) ++ (v % 256 ∷ ys)) (length xs + w) 0 ≡ v % 256
    last =
        get_or_at (xs ++ bytes_of_number w (v / 256)) (v % 256) ys 0 (length xs + w)
        (length-append xs (bytes_of_number w (v / 256)) ∙ ap (λ (n : ℕ). length xs + n) (length_bytes_of_number w (v / 256)))

-- the bytes of the number at a place are what stands there
pub get_or_bytes_number_at : (b : List ℕ) (at w j : ℕ) → Octets b → j < w → get_or (bytes_of_number w (number_at b at w)) j 0 ≡ get_or b (at + j) 0
unfolding bytes_of_number number_at
get_or_bytes_number_at b at zero j o h = absurd (not-suc-le-zero h)
get_or_bytes_number_at b at (suc w) j o h =
    rw (digits_div (number_at b at w) (o.octet (at + w)), digits_mod (number_at b at w) (o.octet (at + w)))
    (⊎_elim (λ l. earlier l (get_or_bytes_number_at b at w j o l)) last (below_suc j w h))
  where
    front : List ℕ
    front = bytes_of_number w (number_at b at w)

    long : length front ≡ w
    long = length_bytes_of_number w (number_at b at w)

    earlier : j < w → get_or front j 0 ≡ get_or b (at + j) 0 → get_or (front ++ (get_or b (at + w) 0 ∷ [])) j 0 ≡ get_or b (at + j) 0
    earlier l e = get_or-append front (get_or b (at + w) 0 ∷ []) 0 j (rw long l) ∙ e

    last : j ≡ w → get_or (front ++ (get_or b (at + w) 0 ∷ [])) j 0 ≡ get_or b (at + j) 0
    last q = rw q (get_or_at front (get_or b (at + w) 0) [] 0 w long)

pub bytes_number_at : (b : List ℕ) (at w : ℕ) → Octets b → at + w ≤ length b → bytes_of_number w (number_at b at w) ≡ take w (drop at b)
bytes_number_at b at w o h =
    ext_get_or 0 (bytes_of_number w (number_at b at w)) (take w (drop at b)) (long ∙ sym (length-take-le w (drop at b) (simp length-drop (omega arith))))
    (λ j l. let k : j < w = rw long at l in get_or_bytes_number_at b at w j o k ∙ sym (get_or-take w (drop at b) j 0 k ∙ get_or-drop at b j 0))
  where
    long : length (bytes_of_number w (number_at b at w)) ≡ w
    long = length_bytes_of_number w (number_at b at w)

-- each byte of a number is a digit to the base 256
pub get_or_bytes_of_number : (w v j : ℕ) → j < w → get_or (bytes_of_number w v) j 0 ≡ v / 256 ^ (w - suc j) % 256
unfolding bytes_of_number
get_or_bytes_of_number zero v j h = absurd (not-suc-le-zero h)
get_or_bytes_of_number (suc w) v j h = ⊎_elim (λ l. earlier l (get_or_bytes_of_number w (v / 256) j l)) last (below_suc j w h)
  where
    front : List ℕ
    front = bytes_of_number w (v / 256)

    long : length front ≡ w
    long = length_bytes_of_number w (v / 256)

    earlier : j < w → get_or front j 0 ≡ v / 256 / 256 ^ (w - suc j) % 256
        → get_or (front ++ (v % 256 ∷ [])) j 0 ≡ v / 256 ^ (suc w - suc j) % 256
    earlier l e =
        let q : suc w - suc j ≡ suc (w - suc j) = omega arith in
        get_or-append front (v % 256 ∷ []) 0 j (rw long l) ∙ e
        ∙ ap (λ (d : ℕ). d % 256)
        (div-div-eq-div-mul v 256 (256 ^ (w - suc j)) ∙ ap (λ (d : ℕ). v / d) (sym (pow-succ' 256 (w - suc j)) ∙ ap (λ (k : ℕ). 256 ^ k) (sym q)))

    last : j ≡ w → get_or (front ++ (v % 256 ∷ [])) j 0 ≡ v / 256 ^ (suc w - suc j) % 256
    last q =
        let z : suc w - suc j ≡ 0 = omega arith in
        ap (λ (k : ℕ). get_or (front ++ (v % 256 ∷ [])) k 0) q ∙ get_or_at front (v % 256) [] 0 w long
        ∙ ap (λ (d : ℕ). d % 256) (sym (ap (λ (k : ℕ). v / 256 ^ k) z ∙ div-one v))

pub octets_bytes_of_number : (w v : ℕ) → Octets (bytes_of_number w v)
octets_bytes_of_number w v = record { octet = λ j. each j }
  where
    each : (j : ℕ) → get_or (bytes_of_number w v) j 0 < 256
    each j =
        ⊎_elim (λ (l : ltb j w ≡ true). rw (get_or_bytes_of_number w v j (ltb-true j w l)) (mod-lt (v / 256 ^ (w - suc j)) (omega arith)))
        (λ (l : ltb j w ≡ false).
        let k : length (bytes_of_number w v) ≤ j = rw (length_bytes_of_number w v) (ltb-false j w l) in
        rw (get_or-eq_default (bytes_of_number w v) 0 k) (omega arith))
        (way (ltb j w))
