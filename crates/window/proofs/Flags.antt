-- A test as 0 or 1: of an outcome, and of the byte of the entry that leaves.
use Rattle.std.specs.Prelude.{ℕ, ◌<◌, ◌≡◌, refl, Bool, true, false, cond, not, eqb}
use Rattle.std.proofs.Common.{arith, ⊎_elim, eqb-true}
use Rattle.std.proofs.lemmas.Bool.{eqb-false}
use mir.Val.{bool_byte}
use Rattle.matrix.specs.Numbers.{truth}
use Rattle.laws.specs.Tests.{way}
use Rattle.window.specs.Changed.{refused_one, refused_bit}

pub refused_is : (outcome : ℕ) → truth (not (eqb outcome 0)) ≡ refused_one outcome
refused_is outcome = either (eqb outcome 0)
  where
    either : (t : Bool) → truth (not t) ≡ cond t 0 1
    either true = refl
    either false = refl

pub bit_of_byte : (byte : ℕ) → byte < 256 → bool_byte (not (eqb byte 0)) ≡ refused_bit byte
bit_of_byte byte h =
    ⊎_elim (λ t. let e : byte ≡ 0 = eqb-true byte 0 t in rw t (omega arith)) (λ t. let n : byte ≡ 0 → ⊥ = eqb-false byte 0 t in rw t (omega arith)) (way (eqb byte 0))
