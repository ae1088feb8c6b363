-- `octets::put_four` meets its contract.
use Rattle.std.proofs.Common.{ℕ, ◌+◌, ◌-◌, ◌≡◌, ◌∙◌, List, arith, ap₂}
use borrow.Rule.Slice.PartMut.{put_mid}
use Rattle.octets.proofs.Numbers.{four_stored}
use Rattle.octets.proofs.put_four.Goals as goal

pub returns : goal.returns
returns c =
    let a = c.args in
    let long : a.at + 4 - a.at ≡ 4 = omega arith in
    ap₂ (λ (k : ℕ) (l : List ℕ). put_mid a.at k a.b.now l) long (c.copy_from_slice.ensures.after ∙ c.to_be_bytes.ensures) ∙ four_stored a.b.now a.at a.v c.requires
