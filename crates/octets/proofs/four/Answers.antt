-- `octets::four` meets its contract.
use Rattle.std.proofs.Common.{◌∙◌}
use Rattle.octets.proofs.Numbers.{four_read}
use Rattle.octets.proofs.four.Goals as goal

pub returns : goal.returns
returns c = c.from_be_bytes.ensures ∙ four_read c.args.b.now c.args.at
