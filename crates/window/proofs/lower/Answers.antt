-- `window::lower` meets its contract.
use Rattle.std.proofs.Common.{ℕ, ◌+◌, ◌-◌, ◌%◌, ◌≡◌, arith, sym, ◌∙◌, ap}
use Rattle.matrix.specs.Bytes.{set_number}
use Rattle.history.specs.Window.{count_place}
use Rattle.window.specs.Changed.{initiator_of, refused_bit}
use Rattle.window.proofs.Bytes.{lowered_beyond, lowered_within}
use Rattle.window.proofs.Flags.{bit_of_byte}
use Rattle.window.proofs.lower.Goals as goal

pub returns-then-byte-gt-WINDOW_NUMBERS : goal.returns-then-byte-gt-WINDOW_NUMBERS
returns-then-byte-gt-WINDOW_NUMBERS c = sym (lowered_beyond _ _ c.if-byte-gt-WINDOW_NUMBERS.true)

pub returns : goal.returns
returns c =
    let w = c.args.w.now in
    let byte = c.args.leaving in
    let bit : c.from.result ≡ refused_bit byte = c.from.ensures ∙ bit_of_byte byte (omega arith) in
    let less : c.count_at-v.result + (65536 - c.from.result) ≡ c.count_at-v.result + 65536 - refused_bit byte = omega arith in
    c.set_count.ensures
    ∙ ap (λ (v : ℕ). set_number w (count_place (initiator_of byte)) 2 (v % 65536)) less
    ∙ ap (λ (v : ℕ). set_number w (count_place (initiator_of byte)) 2 ((v + 65536 - refused_bit byte) % 65536)) c.count_at-v.ensures
    ∙ sym (lowered_within w byte (omega arith))
