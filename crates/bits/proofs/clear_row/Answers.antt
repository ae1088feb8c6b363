-- `bits::clear_row` meets its contract: the row's bytes are all of its cells.
use Rattle.std.proofs.Common.{ℕ, ◌+◌, ◌-◌, ◌≤◌, ◌≡◌, ◌∙◌, List, length, replicate, take, drop, arith, ap, ap₂, length-take-le, length-drop}
use borrow.Rule.Slice.PartMut.{put_mid}
use Rattle.codec.specs.ShapeRight.{most_bytes}
use Rattle.cells.specs.Station.{right_shape}
use Rattle.bits.specs.OwnBytes.{row_below}
use Rattle.bits.specs.Steps.{became_at}
use Rattle.bits.proofs.Row.{zeroed, row_cleared}
use Rattle.bits.proofs.clear_row.Goals as goal
use Rattle.bits.proofs.clear_row.Goals.{After-row_bytes}

within : (c : After-row_bytes) → let end = c.place-at.result + c.row_bytes.result in (end ≤ length c.args.b.now) × (end ≤ most_bytes)
within c =
    let l = row_below c.requires.0 c.requires.1 c.place-at.ensures in
    (omega (arith, l.0, c.row_bytes.ensures), omega (arith, l.1, c.row_bytes.ensures))

pub place-at-requires : goal.place-at-requires
place-at-requires c = let g = right_shape c.requires.0 in (g, c.requires.1, omega (arith, g.low))

pub row_bytes-requires : goal.row_bytes-requires
row_bytes-requires c = right_shape c.requires.0

pub overflow_add-at : goal.overflow_add-at
overflow_add-at c = record { fits = omega (arith, (within c).1) }

pub slice_bounds-fill-end : goal.slice_bounds-fill-end
slice_bounds-fill-end c = omega (arith, (within c).0)

pub returns : goal.returns
returns c =
    let b = c.args.b.now in
    let at = c.place-at.result in
    let k = c.row_bytes.result in
    let long : at + k - at ≡ k = omega arith in
    let size : length (take (at + k - at) (drop at b)) ≡ k = length-take-le (at + k - at) (drop at b) (simp length-drop (omega (arith, (within (goal.at.returns c).After-row_bytes).0))) ∙ long in
    let zeros : c.fill.new.self ≡ replicate k 0 = c.fill.ensures.after (λ y e. e) ∙ ap (λ (n : ℕ). replicate n 0) size in
    became_at (ap₂ (λ (n : ℕ) (l : List ℕ). put_mid at n b l) long zeros ∙ ap₂ (zeroed b) c.place-at.ensures c.row_bytes.ensures)
    (row_cleared c.requires.0 c.args.r c.requires.1)
