-- `converting::fill` meets its contract: a record of the wanted version is the record itself.
use Rattle.std.proofs.Common.{sym, ◌∙◌}
use Rattle.converting.specs.Copying.{own_record, own_size}
use Rattle.converting.proofs.fill.Goals as goal

pub copy_from_slice-requires : goal.copy_from_slice-requires
copy_from_slice-requires c = c.requires.1 ∙ sym (own_size c.requires.0.wanted c.if-f-g.true)

pub returns-then-f-g : goal.returns-then-f-g
returns-then-f-g c = c.copy_from_slice.ensures.after ∙ own_record c.requires.0.wanted c.if-f-g.true
