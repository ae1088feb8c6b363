-- `octets::eight` meets its contract: the first eight of the bytes from the place on.
use Rattle.std.proofs.Common.{ℕ, List, ◌∙◌, ap, take, length, le_refl}
use Rattle.std.proofs.lemmas.Slice.{between_to_end}
use Rattle.octets.proofs.Numbers.{eight_read}
use Rattle.octets.proofs.eight.Goals as goal

pub returns : goal.returns
returns c =
    let b = c.args.b.now in
    let first = rw c.unwrap.ensures at c.first_chunk.ensures.cases in
    c.from_be_bytes.ensures
    ∙ eight_read b c.args.at (first.same ∙ ap (λ (l : List ℕ). take 8 l) (between_to_end b c.args.at (length b) (le_refl (length b))))
