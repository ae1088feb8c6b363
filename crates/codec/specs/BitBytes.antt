-- A bit of a number stands in one of its bytes: it is read there, and stored there.
use Rattle.std.specs.Prelude.{ℕ, ◌+◌, ◌-◌, ◌*◌, ◌/◌, ◌%◌, ◌^◌, ◌<◌, ◌≡◌, eqb}
use Rattle.std.proofs.Common.{sym, ◌∙◌, ap, shr-shr}
use Rattle.std.proofs.Math.Arith.{digits_div}
use Rattle.matrix.specs.Bytes.{bit}

-- the byte of bit j among the w bytes of a number, the first byte highest
abbrev pub byte_of : ℕ → ℕ → ℕ
byte_of w j = w - 1 - j / 8

pub high_bit : (j hi lo : ℕ) → lo < 256 → bit (8 + j) (hi * 256 + lo) ≡ bit j hi
unfolding bit
high_bit j hi lo h = ap (λ (x : ℕ). eqb (x % 2) 1) (sym (shr-shr (hi * 256 + lo) 8 j) ∙ ap (λ (x : ℕ). x / 2 ^ j) (digits_div hi h))
