-- `row_search::one_of_four` meets its contract: a bit of what is joined is that of one of the bytes.
use mathlib.Core.Path.{◌∙◌}
use Rattle.row_search.specs.Blocks.{block_joined}
use Rattle.row_search.proofs.one_of_four.Goals as goal

pub returns : goal.returns
returns c =
    let q = c.requires in
    c.bit_of.ensures ∙ block_joined _ _ q.0 q.2 c.low_byte.ensures c.low_byte-2.ensures c.low_byte-3.ensures c.low_byte-4.ensures
