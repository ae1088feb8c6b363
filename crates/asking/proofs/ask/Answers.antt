-- `asking::ask` meets its contract.
use native.Mathlib.Omega.{arith}
use mathlib.Core.Path.{sym}
use lib.Seq.{length-take-le}
use Rattle.asking.specs.Input.{too_long, too_short, asked_so}
use Rattle.asking.proofs.ask.Goals as goal

pub returns-then-size-gt-MOST_INPUT : goal.returns-then-size-gt-MOST_INPUT
returns-then-size-gt-MOST_INPUT c = too_long _ _ c.if-size-gt-MOST_INPUT.true

pub returns-then-size-lt-QUESTION_BYTES : goal.returns-then-size-lt-QUESTION_BYTES
returns-then-size-lt-QUESTION_BYTES c = too_short _ _ c.if-size-lt-QUESTION_BYTES.true

pub slice_bounds-safety-end : goal.slice_bounds-safety-end
slice_bounds-safety-end c = sym (length-take-le _ _ (omega arith))

pub returns : goal.returns
returns c =
    asked_so _ _ c.if-size-lt-QUESTION_BYTES.false c.if-size-gt-MOST_INPUT.false c.eight-trust.ensures c.byte-s.ensures c.byte-o.ensures c.byte-right.ensures c.safety.ensures
