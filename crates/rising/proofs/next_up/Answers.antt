-- `rising::next_up` meets its contract: each way out is a case of a step up.
use Rattle.std.proofs.Common.{sym, ◌∙◌, inl, inr}
use Rattle.states.specs.Reads.{top_is}
use Rattle.rising.specs.Valid.{guessed_of}
use Rattle.rising.specs.Shut.{next_none, next_owner}
use Rattle.rising.proofs.next_up.Goals as goal
use Rattle.rising.proofs.next_up.Goals.{then-v-eq0-via-then-v-eq0, then-v-eq0-via-else-v-eq0+then-has}

pub returns-then-v-eq0 : goal.returns-then-v-eq0
returns-then-v-eq0 c =
    next_none _ _ _ (elim c.then-v-eq0.branch [
      | then-v-eq0-via-then-v-eq0 w ↦ inl w.if-v-eq0.true
      | then-v-eq0-via-else-v-eq0+then-has w ↦ inr (sym w.has.ensures ∙ w.if-has.true)
    ])

pub owner_of-requires : goal.owner_of-requires
owner_of-requires c = let r = c.args.r.now in (guessed_of r.station r.valid r.size, c.requires)

pub returns : goal.returns
returns c = next_owner _ _ _ c.if-v-eq0.false c.owner_of.ensures (top_is _ _ c.args.r.now.station)
