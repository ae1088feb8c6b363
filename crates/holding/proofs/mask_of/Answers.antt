-- `holding::mask_of` meets its contract: neither shift reaches the bits of a word.
use Prim.Native.Nat.{ℕ, ◌^◌, ◌<◌}
use mathlib.Core.Path.{sym, ◌∙◌, ap, ap₂, subst}
use lib.Bits.{bit_or}
use lib.Dec.{ltb}
use mir.Val.{bool_byte}
use Rattle.laws.specs.Numbers.{digit}
use Rattle.codec.specs.Bits.{word_bits, one_shifted}
use Rattle.holding.specs.Mask.{mask_of}
use Rattle.holding.proofs.MaskHolds.{starred_below}
use Rattle.holding.proofs.mask_of.Goals as goal

starred_small : (c : ℕ) → c < word_bits → bit_or c (bool_byte (ltb 1 c)) < word_bits
starred_small c h = subst (λ (d : ℕ). bit_or c d < word_bits) (digit (ltb 1 c)) (starred_below 8 c h)

pub overflow_shl-result-2 : goal.overflow_shl-result-2
overflow_shl-result-2 c = starred_small c.args.code c.requires

pub returns : goal.returns
unfolding mask_of
returns c =
    let code = c.args.code in
    ap₂ (λ (u v : ℕ). bit_or u v)
    (ap₂ (λ (u v : ℕ). bit_or u v) (one_shifted code c.requires)
    (one_shifted _ (starred_small code c.requires) ∙ ap (λ (d : ℕ). 2 ^ bit_or code d) (sym (digit (ltb 1 code)))))
    (sym (digit (ltb 1 code)))
