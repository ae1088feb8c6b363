-- What is claimed of the mask of a right, proved: which bits it has, and what a bit says that a cell shares with it.
use Rattle.std.specs.Prelude.{ℕ, zero, suc, ◌+◌, ◌*◌, ◌/◌, ◌%◌, ◌^◌, ◌<◌, max, ◌≡◌, refl, Bool, true, false, not, ◌||◌, List, [], ◌∷◌, ◌++◌, eqb, ltb}
use Rattle.std.proofs.Common.{lt_of_le_of_lt, arith, sym, ◌∙◌, ap, ⊎_elim, lt-ltb, eqb-true, ne_eqb, ltb-true, ltb-false}
use Rattle.std.proofs.Math.Bool.{or-false}
use Rattle.std.specs.Int.Bits.{bit_and, bit_or, or_step, or_zero_r}
use Rattle.std.proofs.lemmas.Nat.{and_le_l}
use Rattle.matrix.specs.declared.Name.{Name}
use Rattle.matrix.specs.declared.Right.{Right}
use Rattle.matrix.specs.Numbers.{truth}
use Rattle.matrix.specs.Rights.{code_of, right_of}
use Rattle.matrix.specs.State.{State, has, has_one}
use Rattle.matrix.specs.Bytes.{bit}
use Rattle.laws.specs.Tests.{way, clash, and_left, and_right, and_both, or_cases, or_left, or_right}
use Rattle.laws.specs.Bounded.{any_found}
use Rattle.laws.specs.Same.{eqb_same}
use Rattle.laws.specs.BitOps.{bit_and_lem}
use Rattle.codec.specs.Bits.{bit_zero, bit_beyond, any_bit}
use Rattle.codec.specs.Codes.{right_of_code_of}
use Rattle.holding.specs.Mask.{basic_digit, starred_code, code_among, shares}

-- ---- which bits the mask has
-- the digit of a basic right's code
pub basic_digit_lem : (c : ℕ) → 1 < c → basic_digit c ≡ 1
basic_digit_lem c l = ap truth (lt-ltb 1 c l)

-- the starred form has the odd one of the two codes
pub starred_odd : (c : ℕ) → 1 < c → starred_code c ≡ c / 2 * 2 + 1
starred_odd c l =
    ap (bit_or c) (basic_digit_lem c l) ∙ or_step c 1 ∙ ap (λ (m : ℕ). m * 2 + max (c % 2) 1) (or_zero_r (c / 2)) ∙ odd (c % 2) (omega arith)
  where
    odd : (d : ℕ) → d < 2 → c / 2 * 2 + max d 1 ≡ c / 2 * 2 + 1
    odd zero h = refl
    odd (suc zero) h = refl
    odd (suc (suc d)) h = absurd (omega arith)

-- a code among some rights or among others
pub among_either : (j : ℕ) (ys zs : List Right) → (code_among j ys || code_among j zs) ≡ code_among j (ys ++ zs)
among_either j [] zs = refl
among_either j (y ∷ ys) zs = first (eqb j (code_of y)) (among_either j ys zs)
  where
    first : (t : Bool) → (code_among j ys || code_among j zs) ≡ code_among j (ys ++ zs) → ((t || code_among j ys) || code_among j zs) ≡ (t || code_among j (ys ++ zs))
    first true e = refl
    first false e = e

-- the two codes are one for a right that has no other form or is starred, and else those of both forms
pub one_code : (j c d : ℕ) (y : Right) → code_of y ≡ c → d ≡ c → (eqb j c || eqb j d) ≡ code_among j (y ∷ [])
one_code j c d y e h = rw (e, h) (twice (eqb j c))
  where
    twice : (t : Bool) → (t || t) ≡ (t || false)
    twice true = refl
    twice false = refl

pub both_codes : (j c d : ℕ) (y z : Right) → code_of y ≡ c → code_of z ≡ d → (eqb j c || eqb j d) ≡ code_among j (y ∷ z ∷ [])
both_codes j c d y z e h = rw (e, h) (ap (λ (t : Bool). eqb j c || t) (sym (or-false (eqb j d))))

-- ---- what a shared bit says
-- a bit that both numbers have; and one that numbers which share a bit have, below the bits of the first
pub shares_hit : (j u v : ℕ) → bit j u ≡ true → bit j v ≡ true → shares u v ≡ true
shares_hit j u v h g =
    ap not (ne_eqb (bit_and u v) 0 (λ z. clash (bit_and_lem j u v ∙ and_both h g) (ap (bit j) z ∙ bit_zero j)))

pub shares_found : (m u v : ℕ) → u < 2 ^ m → shares u v ≡ true → (j : ℕ) × (j < m) × (bit j u ≡ true) × (bit j v ≡ true)
shares_found m u v below h =
    let found = any_found m (λ j. bit j (bit_and u v)) (any_bit m (bit_and u v) (lt_of_le_of_lt (and_le_l u v) below) ∙ h) in
    let both = sym (bit_and_lem found.0 u v) ∙ found.2 in
    (found.0, found.1, and_left (bit found.0 u) (bit found.0 v) both, and_right (bit found.0 u) (bit found.0 v) both)

-- a bit that a number of m bits has is one of those
pub bit_inside : (m j v : ℕ) → v < 2 ^ m → bit j v ≡ true → j < m
bit_inside m j v below h = ⊎_elim (λ t. ltb-true j m t) (λ t. absurd (clash h (bit_beyond m j v below (ltb-false j m t)))) (way (ltb j m))

-- one of the rights is set exactly where the right of one of their codes is
module _ (S : State) (w : ℕ) (x : Name) where
  pub code_set : (ys : List Right) (j : ℕ) → code_among j ys ≡ true → has S (right_of j) w x ≡ true → has_one S ys w x ≡ true
  code_set [] j h g = absurd (clash h refl)
  code_set (y ∷ ys) j h g =
      ⊎_elim here (λ e. or_right (has S y w x) (code_set ys j e g)) (or_cases (eqb j (code_of y)) (code_among j ys) h)
    where
      here : eqb j (code_of y) ≡ true → has_one S (y ∷ ys) w x ≡ true
      here e =
          let q : right_of j ≡ y = ap right_of (eqb-true j (code_of y) e) ∙ right_of_code_of y in
          or_left (has_one S ys w x) (ap (λ (z : Right). has S z w x) (sym q) ∙ g)

  abbrev SetCode : List Right → Type 0
  SetCode ys = (j : ℕ) × (code_among j ys ≡ true) × (has S (right_of j) w x ≡ true)

  pub set_code : (ys : List Right) → has_one S ys w x ≡ true → SetCode ys
  set_code [] h = absurd (clash h refl)
  set_code (y ∷ ys) h = ⊎_elim here (λ e. later (set_code ys e)) (or_cases (has S y w x) (has_one S ys w x) h)
    where
      here : has S y w x ≡ true → SetCode (y ∷ ys)
      here e = (code_of y, or_left (code_among (code_of y) ys) (eqb_same (code_of y)), ap (λ (z : Right). has S z w x) (right_of_code_of y) ∙ e)

      later : SetCode ys → SetCode (y ∷ ys)
      later r = (r.0, or_right (eqb r.0 (code_of y)) r.1, r.2)
