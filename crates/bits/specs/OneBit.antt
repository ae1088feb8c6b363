-- The byte with one bit set or cleared, as the code computes it.
use Rattle.std.specs.Prelude.{ℕ, suc, ◌-◌, ◌*◌, ◌%◌, ◌^◌, ◌<◌, ◌≡◌, refl, Bool, true, false, cond, ◌&&◌, eqb}
use Rattle.std.proofs.Math.Nat.{pow-succ'}
use Rattle.std.proofs.Common.{lt_of_le_of_lt, arith, sym, ◌∙◌, ap, ⊎_elim, pow_mono, pow_pos, eqb-true}
use Rattle.std.specs.Int.Bits.{bit_and, bit_or, or_add_and}
use Rattle.std.proofs.lemmas.Nat.{and_le_l, and_comm, and-not}
use Rattle.matrix.specs.Bytes.{bit}
use Rattle.laws.specs.Tests.{way}
use Rattle.laws.specs.BitOps.{bit_and_lem}
use Rattle.codec.specs.Bits.{with_bit, bit_zero, bit_power, same_bits}

-- a power of two within a byte
power_below : (j : ℕ) → j < 8 → 2 ^ j < 256
power_below j h = omega (arith, pow_mono {i = suc j} {j = 8} (omega arith), pow-succ' 2 j, pow_pos j)

-- a one shifted left within a byte
pub one_in_byte : (j : ℕ) → j < 8 → 1 * 2 ^ j % 256 ≡ 2 ^ j
one_in_byte j h = omega (arith, power_below j h)

and_never : (t : Bool) → (t && false) ≡ false
and_never true = refl
and_never false = refl

-- bit j of a byte by itself, as a number: the power where it is set, and else 0
alone : (j v : ℕ) → j < 8 → v < 256 → bit_and v (2 ^ j) ≡ cond (bit j v) (2 ^ j) 0
alone j v h l = same_bits 8 _ _ (lt_of_le_of_lt (and_le_l v (2 ^ j)) l) (⊎_elim (λ e. rw e (power_below j h)) (λ e. rw e (omega arith)) (way (bit j v))) each
  where
    here : (i : ℕ) (t : Bool) → eqb i j ≡ true → bit j v ≡ t → bit i v ≡ t
    here i t s e = ap (λ (k : ℕ). bit k v) (eqb-true i j s) ∙ e

    with_power : (i : ℕ) (t : Bool) → bit j v ≡ t → (bit i v && eqb i j) ≡ bit i (cond t (2 ^ j) 0)
    with_power i true e = ⊎_elim (λ s. rw (here i true s e, s) (sym (bit_power i j ∙ s))) (λ d. rw d (and_never (bit i v) ∙ sym (bit_power i j ∙ d))) (way (eqb i j))
    with_power i false e = ⊎_elim (λ s. rw (here i false s e) (sym (bit_zero i))) (λ d. rw d (and_never (bit i v) ∙ sym (bit_zero i))) (way (eqb i j))

    each : (i : ℕ) → i < 8 → bit i (bit_and v (2 ^ j)) ≡ bit i (cond (bit j v) (2 ^ j) 0)
    each i b = bit_and_lem i v (2 ^ j) ∙ ap (λ (t : Bool). bit i v && t) (bit_power i j) ∙ with_power i (bit j v) refl

-- set by or, and cleared by taking away what the byte has of the bit, or by and with all other bits
pub set_by_or : (j v : ℕ) → j < 8 → v < 256 → bit_or v (2 ^ j) ≡ with_bit j true v
unfolding with_bit
set_by_or j v h l =
    ⊎_elim (λ e. rw e (omega (arith, or_add_and v (2 ^ j), alone j v h l ∙ ap (λ (t : Bool). cond t (2 ^ j) 0) e)))
    (λ e. rw e (omega (arith, or_add_and v (2 ^ j), alone j v h l ∙ ap (λ (t : Bool). cond t (2 ^ j) 0) e))) (way (bit j v))

pub cleared : (j v : ℕ) → j < 8 → v < 256 → v - bit_and v (2 ^ j) ≡ with_bit j false v
unfolding with_bit
cleared j v h l = ap (λ (x : ℕ). v - x) (alone j v h l) ∙ ⊎_elim (λ e. rw e refl) (λ e. rw e (omega arith)) (way (bit j v))

pub cleared_by_and : (j v : ℕ) → j < 8 → v < 256 → bit_and v (255 - 2 ^ j) ≡ with_bit j false v
cleared_by_and j v h l = others ∙ cleared j v h l
  where
    others : bit_and v (255 - 2 ^ j) ≡ v - bit_and v (2 ^ j)
    others = omega (arith, and-not 8 (2 ^ j) v (power_below j h) l, and_comm v (255 - 2 ^ j), and_comm v (2 ^ j))
