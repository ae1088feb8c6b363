-- `bits::last_byte` meets its contract.
use Prim.Native.Nat.{ℕ, ◌/◌, ◌%◌}
use mathlib.Core.Path.{sym, ◌∙◌, ap}
use lib.Bits.{bit_and, bit_or}
use lib.Dec.{eqb}
use Rattle.laws.specs.Numbers.{digit}
use Rattle.bits.specs.OwnBytes.{last_is}
use Rattle.bits.proofs.last_byte.Goals as goal

pub returns : goal.returns
returns c =
    let k = c.args.k in
    ap (λ (t : ℕ). bit_and (k % 2) (bit_or (k / 2 % 2) t)) (sym (digit (eqb c.args.width 2))) ∙ last_is c.args.width k c.requires
