-- `bits::with_bit` meets its contract: a bit is set by or, and cleared by and with all other bits.
use Rattle.std.proofs.Common.{ℕ, ◌-◌, Bool, bit_and, bit_or, sym, ◌∙◌, ap}
use Rattle.codec.specs.Bits.{with_bit}
use Rattle.bits.specs.OneBit.{one_in_byte, set_by_or, cleared_by_and}
use Rattle.bits.proofs.with_bit.Goals as goal

pub returns-then-on : goal.returns-then-on
returns-then-on c =
    let a = c.args in
    ap (λ (m : ℕ). bit_or a.v m) (one_in_byte a.j c.requires) ∙ set_by_or a.j a.v c.requires c.well_formed.0.1
    ∙ sym (ap (λ (on : Bool). with_bit a.j on a.v) c.if-on.true)

pub returns-else-on : goal.returns-else-on
returns-else-on c =
    let a = c.args in
    ap (λ (m : ℕ). bit_and a.v (255 - m)) (one_in_byte a.j c.requires) ∙ cleared_by_and a.j a.v c.requires c.well_formed.0.1
    ∙ sym (ap (λ (on : Bool). with_bit a.j on a.v) c.if-on.false)
