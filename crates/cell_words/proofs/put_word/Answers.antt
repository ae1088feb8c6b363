-- `cell_words::put_word` meets its contract: two bytes of the word are stored, or all four.
use Rattle.std.proofs.Common.{ℕ, ◌+◌, ◌-◌, ◌≡◌, List, take, drop, arith, sym, ◌∙◌, ap, ap₂}
use borrow.Rule.Slice.PartMut.{put_mid}
use Rattle.matrix.specs.Bytes.{set_number}
use Rattle.octets.proofs.Numbers.{two_stored, four_stored}
use Rattle.cell_words.specs.Words.{not_two, two_turned, four_turned}
use Rattle.cell_words.proofs.put_word.Goals as goal

pub returns-then-width-eq2 : goal.returns-then-width-eq2
returns-then-width-eq2 c =
    let a = c.args in
    let out = a.out.now in
    let long : a.at + 2 - a.at ≡ 2 = omega arith in
    λ m t.
    ap₂ (λ (k : ℕ) (l : List ℕ). put_mid a.at k out l) long
    (c.copy_from_slice.ensures.after ∙ ap (λ (l : List ℕ). take 2 (drop 2 l)) c.to_le_bytes-bytes.ensures ∙ two_turned a.v m t)
    ∙ two_stored out a.at m (omega arith) ∙ ap (λ (w : ℕ). set_number out a.at w m) (sym c.if-width-eq2.true)

pub returns-else-width-eq2 : goal.returns-else-width-eq2
returns-else-width-eq2 c =
    let a = c.args in
    let out = a.out.now in
    let four = not_two c.requires.0 c.if-width-eq2.false in
    let long : a.at + 4 - a.at ≡ 4 = omega arith in
    λ m t.
    ap₂ (λ (k : ℕ) (l : List ℕ). put_mid a.at k out l) long
    (c.copy_from_slice-else-width-eq2.ensures.after ∙ c.to_le_bytes-bytes.ensures ∙ four_turned a.v m t)
    ∙ four_stored out a.at m (omega (arith, four)) ∙ ap (λ (w : ℕ). set_number out a.at w m) (sym four)
