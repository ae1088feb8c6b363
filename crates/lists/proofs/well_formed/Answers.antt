-- `lists::well_formed` meets its contract.
use Rattle.std.proofs.Common.{◌≡◌, ◌-◌, take, drop, length, arith, sym, ◌∙◌, ap₂, length-drop}
use Rattle.std.proofs.lemmas.List.{take_all}
use Rattle.matrix.specs.CommandList.{list_head}
use Rattle.lists.specs.Forms.{head_right, head_long, head_short, right_head, wrong_head, commands_right}
use Rattle.lists.proofs.well_formed.Goals as goal
use Rattle.lists.proofs.well_formed.Goals.{then-l-ge-LIST_HEAD, else-l-ge-LIST_HEAD}

pub returns-then-l-eq1 : goal.returns-then-l-eq1
returns-then-l-eq1 c =
    let l = c.args.l.now in
    let e : c.if-l-ge-LIST_HEAD.value ≡ head_right l = elim c.if-l-ge-LIST_HEAD.branch [
      | then-l-ge-LIST_HEAD w ↦ head_long l w.if-l-ge-LIST_HEAD.true w.value-is
      | else-l-ge-LIST_HEAD w ↦ head_short l w.if-l-ge-LIST_HEAD.false w.value-is
    ] in
    let d : length (drop list_head l) ≡ length l - list_head = length-drop list_head l in
    let a : take (length l - list_head) (drop list_head l) ≡ drop list_head l = take_all (length l - list_head) (drop list_head l) (omega arith) in
    right_head l (sym e ∙ c.if-l-eq1.true) (c.commands_right.ensures ∙ ap₂ commands_right a c.four.ensures)

pub returns-else-l-eq1 : goal.returns-else-l-eq1
returns-else-l-eq1 c =
    let l = c.args.l.now in
    let e : c.if-l-ge-LIST_HEAD.value ≡ head_right l = elim c.if-l-ge-LIST_HEAD.branch [
      | then-l-ge-LIST_HEAD w ↦ head_long l w.if-l-ge-LIST_HEAD.true w.value-is
      | else-l-ge-LIST_HEAD w ↦ head_short l w.if-l-ge-LIST_HEAD.false w.value-is
    ] in
    wrong_head l e c.if-l-eq1.false
