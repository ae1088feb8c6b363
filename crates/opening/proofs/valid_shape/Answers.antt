-- `opening::valid_shape` meets its contract, field by field.
use Prim.Native.Nat.{ℕ, ◌*◌}
use native.Mathlib.Omega.{arith}
use mathlib.Core.Path.{◌∙◌, ap}
use Rattle.matrix.specs.Shape.{shape_of}
use Rattle.opening.specs.Opened.{long_enough, width_read}
use Rattle.opening.proofs.valid_shape.Goals as goal

pub byte-version-requires : goal.byte-version-requires
byte-version-requires c = omega (arith, long_enough _ c.requires)

pub byte-requires : goal.byte-requires
byte-requires c = omega (arith, long_enough _ c.requires)

pub byte-requires-2 : goal.byte-requires-2
byte-requires-2 c = omega (arith, long_enough _ c.requires)

pub overflow_mul-result : goal.overflow_mul-result
overflow_mul-result c =
    omega (arith, c.byte-version.ensures, c.shared_slice_known-1.given 0)

pub returns : goal.returns
unfolding shape_of
returns c =
    let width = ap (λ (v : ℕ). 2 * v) c.byte-version.ensures ∙ width_read _ c.requires in
    λ i. record { version = c.byte-version.ensures i; n = c.byte.ensures i; p = c.byte-2.ensures i; width = width i; first = c.first_of.ensures i }
