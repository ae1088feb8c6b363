-- `converting::put_header` meets its contract: the stores are those of the definition.
use Rattle.std.proofs.Common.{ℕ, ◌-◌, set, ◌∙◌, ap}
use Rattle.matrix.specs.Bytes.{set_number}
use Rattle.matrix.specs.Shaped.{Octets}
use Rattle.converting.specs.Header.{put_header, header_station}
use Rattle.converting.proofs.put_header.Goals as goal
use Rattle.converting.proofs.put_header.Goals.{After-size_of-count}

-- what is overwritten are bytes
octets : (c : After-size_of-count) → Octets c.args.out.now
octets c = record { octet = λ j. (c.type_inv.out j).fits }

pub returns : goal.returns
unfolding put_header
returns c =
    let out = c.args.out.now in
    let g = c.args.g in
    let count = c.put_four.ensures ∙ ap (λ (x : ℕ). set_number (set out 0 g.version) 1 4 (x - 5)) c.size_of-count.ensures in
    rw count (header_station out g c.requires.0 c.requires.1 (octets (goal.at.returns c).After-size_of-count))
