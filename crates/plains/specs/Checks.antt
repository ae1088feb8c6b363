-- The test of a plain column, of what is seen in the lanes of its cells, q each, over all rows.
use Rattle.std.specs.Prelude.{ℕ, ◌+◌, ◌-◌, ◌/◌, ◌%◌, ◌≡◌, ◌⊎◌, Bool, true, false, cond, not, eqb}
use Rattle.std.proofs.Math.Nat.{div-div-eq-div-mul}
use Rattle.std.proofs.Common.{arith, sym, ◌∙◌, ap, inl, inr, ⊎_elim, eqb-true, eq-eqb, ne_eqb}
use Rattle.std.proofs.Math.Path.{refl}
use Rattle.std.proofs.lemmas.Bool.{eqb-false}
use Rattle.matrix.specs.Bytes.{bit}
use Rattle.laws.specs.Tests.{way, fails}
use Rattle.lanes.specs.Lanes.{merged}
use Rattle.columns.specs.Cells.{OneOrTwo, last_lane, bits_in, bits_zero}
use Rattle.columns.specs.Checks.{unseen}

-- own without control among the bits that are seen in column c, where they are the bits 8 and 9 of the last lane
abbrev pub owned_only : ℕ → (ℕ → ℕ) → ℕ → Bool
owned_only q seen c = eqb (seen (last_lane q c) / 256 % 4) 1

-- a plain column: owned and not controlled, or zero
unfoldable pub plain_test : ℕ → (ℕ → ℕ) → ℕ → Bool
plain_test q seen c = cond (owned_only q seen c) true (unseen q seen c)

-- what is wrong with it
unfoldable pub plain_wrong : ℕ → (ℕ → ℕ) → ℕ → ℕ
plain_wrong q seen c = cond (owned_only q seen c) 0 (bits_in q seen c)

-- what is wrong with the columns from `from` on below k, together
abbrev pub wrong_of : (ℕ → ℕ) → ℕ → ℕ → ℕ
wrong_of wrong from k = merged (k - from) (λ i. wrong (from + i))

-- a plain column that is owned and not controlled, and another one, by the last lane of its cell
module _ (q : ℕ) (seen : ℕ → ℕ) (c j : ℕ) (e : j ≡ last_lane q c) where
  here : seen (last_lane q c) / 256 % 4 ≡ seen j / 256 % 4
  here = ap (λ (i : ℕ). seen i / 256 % 4) (sym e)

  pub plain_owned : seen j / 256 % 4 ≡ 1 → 0 ≡ plain_wrong q seen c
  unfolding plain_wrong
  plain_owned h = rw (eq-eqb (seen (last_lane q c) / 256 % 4) 1 (here ∙ h)) refl

  pub plain_other : (v : ℕ) → (seen j / 256 % 4 ≡ 1 → ⊥) → v ≡ bits_in q seen c → v ≡ plain_wrong q seen c
  unfolding plain_wrong
  plain_other v h k = rw (ne_eqb (seen (last_lane q c) / 256 % 4) 1 (λ z. h (sym here ∙ z))) k

-- nothing is wrong with a plain column just where it passes its test
pub plain_right : (q : ℕ) (seen : ℕ → ℕ) (c : ℕ) → eqb (plain_wrong q seen c) 0 ≡ plain_test q seen c
unfolding plain_wrong plain_test
plain_right q seen c = ⊎_elim (λ e. rw e refl) (λ e. rw e refl) (way (owned_only q seen c))

-- the test of a plain column by own and control, which are the bits 8 and 9 of its last lane
owned_bits : (v : ℕ) (z : Bool) → (z ≡ true → v ≡ 0) → cond (eqb (v / 256 % 4) 1) true z ≡ cond (bit 8 v) (not (bit 9 v)) z
unfolding bit
owned_bits v z none = go (way (eqb (v / 256 % 2) 1)) (way (eqb (v / 512 % 2) 1))
  where
    half : v / 256 / 2 ≡ v / 512
    half = div-div-eq-div-mul v 256 2

    -- the lower of two bits alone
    lower : (w : ℕ) → w % 2 ≡ 1 → (w / 2 % 2 ≡ 1 → ⊥) → w % 4 ≡ 1
    lower w o n = let z : w / 2 % 2 ≡ 0 = omega arith in omega arith

    go : (eqb (v / 256 % 2) 1 ≡ true) ⊎ (eqb (v / 256 % 2) 1 ≡ false) → (eqb (v / 512 % 2) 1 ≡ true) ⊎ (eqb (v / 512 % 2) 1 ≡ false)
        → cond (eqb (v / 256 % 4) 1) true z ≡ cond (eqb (v / 256 % 2) 1) (not (eqb (v / 512 % 2) 1)) z
    go (inl e) (inl f) =
        let p : v / 256 % 2 ≡ 1 = eqb-true _ 1 e in
        let q : v / 512 % 2 ≡ 1 = eqb-true _ 1 f in
        rw (e, f, ne_eqb (v / 256 % 4) 1 (λ h. omega (arith, half))) (fails z (λ t. omega (arith, none t)))
    go (inl e) (inr f) =
        let p : v / 256 % 2 ≡ 1 = eqb-true _ 1 e in
        let q : v / 512 % 2 ≡ 1 → ⊥ = eqb-false _ 1 f in
        rw (e, f, eq-eqb (v / 256 % 4) 1 (lower (v / 256) p (λ h. q (ap (λ (x : ℕ). x % 2) (sym half) ∙ h)))) refl
    go (inr e) f =
        let p : v / 256 % 2 ≡ 1 → ⊥ = eqb-false _ 1 e in
        rw (e, ne_eqb (v / 256 % 4) 1 (λ h. p (omega arith))) refl

pub plain_bits : {q : ℕ} → OneOrTwo q → (seen : ℕ → ℕ) (c : ℕ) →
    let v = seen (last_lane q c) in
    plain_test q seen c ≡ cond (bit 8 v) (not (bit 9 v)) (unseen q seen c)
unfolding plain_test
plain_bits {q} h seen c = owned_bits (seen (last_lane q c)) (unseen q seen c) (bits_zero h seen c)
