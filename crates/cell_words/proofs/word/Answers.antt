-- `cell_words::word` meets its contract: two bytes or four make a number of 32 bits.
use Rattle.std.proofs.Common.{ℕ, ◌*◌, sym, subst}
use Rattle.matrix.specs.Bytes.{number_at}
use Rattle.matrix.specs.Shaped.{Octets}
use Rattle.cell_words.specs.Words.{Turned, not_two, turned_two, turned_four}
use Rattle.cell_words.proofs.word.Goals as goal

pub returns-then-width-eq2 : goal.returns-then-width-eq2
returns-then-width-eq2 c =
    let l = c.args.b.now in
    let at = c.args.at in
    let o : Octets l = record { octet = λ j. (c.type_inv.b j).fits } in
    let v = c.from_le_bytes.result in
    subst (λ (w : ℕ). Turned (v * 65536) (number_at l at w)) (sym c.if-width-eq2.true)
    (subst (λ (x : ℕ). Turned (x * 65536) (number_at l at 2)) (sym c.from_le_bytes.ensures) (turned_two l o at))

pub returns-else-width-eq2 : goal.returns-else-width-eq2
returns-else-width-eq2 c =
    let l = c.args.b.now in
    let at = c.args.at in
    let o : Octets l = record { octet = λ j. (c.type_inv.b j).fits } in
    let v = c.from_le_bytes-else-width-eq2.result in
    subst (λ (w : ℕ). Turned v (number_at l at w)) (sym (not_two c.requires.0 c.if-width-eq2.false))
    (subst (λ (x : ℕ). Turned x (number_at l at 4)) (sym c.from_le_bytes-else-width-eq2.ensures) (turned_four l o at))
