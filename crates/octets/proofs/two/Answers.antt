-- `octets::two` meets its contract.
use Rattle.std.proofs.Common.{◌∙◌}
use Rattle.octets.proofs.Numbers.{two_read}
use Rattle.octets.proofs.two.Goals as goal

pub returns : goal.returns
returns c = c.from_be_bytes.ensures ∙ two_read c.args.b.now c.args.at
