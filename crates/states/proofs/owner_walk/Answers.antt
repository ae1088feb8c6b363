-- `states::owner_walk` meets its contract: each break is a step of the walk.
use Prim.Native.Nat.{ℕ, ◌-◌}
use native.Mathlib.Omega.{arith}
use mathlib.Core.Path.{◌≡◌, sym, ◌∙◌, ap}
use Rattle.matrix.specs.declared.Name.TheVariants.{Subject}
use Rattle.matrix.specs.declared.Walked.{Walked}
use Rattle.matrix.specs.Owners.{walk_from}
use Rattle.matrix.specs.Reading.{state_of}
use Rattle.row_search.specs.SomeBelow.{some_was}
use Rattle.states.specs.Reads.{top_is}
use Rattle.states.specs.Walks.{walk_out, walk_meets, walk_root, walk_unowned, walk_up}
use Rattle.states.proofs.owner_walk.Goals as goal

pub up-init : goal.up-init
up-init c =
    let start : ℕ → Walked = λ n. walk_from (state_of c.args.b.now).top (state_of c.args.b.now).owns n c.args.s (Subject c.args.o) 0 in
    (c.requires.1, ap start (let e : c.args.f.n - 0 ≡ c.args.f.n = omega arith in e ∙ sym (top_is _ _ c.requires.0.station)))

pub up-preserved : goal.up-preserved
up-preserved c = (
  (some_was c.in-Some.ensures).0,
  sym (walk_up _ _ _ _ _ _ c.if-f-links.false c.if-at-o.false c.if-at-eq0.false (top_is _ _ c.requires.0.station) c.in-Some.ensures) ∙ c.up.invariant.1,
)

pub returns-then-f-links : goal.returns-then-f-links
returns-then-f-links c = sym (walk_out _ _ _ _ _ _ c.if-f-links.true) ∙ c.up.invariant.1

pub returns-then-at-o : goal.returns-then-at-o
returns-then-at-o c = sym (walk_meets _ _ _ _ _ _ c.if-f-links.false c.if-at-o.true) ∙ c.up.invariant.1

pub returns-then-at-eq0 : goal.returns-then-at-eq0
returns-then-at-eq0 c = sym (walk_root _ _ _ _ _ _ c.if-f-links.false c.if-at-o.false c.if-at-eq0.true) ∙ c.up.invariant.1

pub returns-in_default : goal.returns-in_default
returns-in_default c =
    sym (walk_unowned _ _ _ _ _ _ c.if-f-links.false c.if-at-o.false c.if-at-eq0.false (top_is _ _ c.requires.0.station) c.in_default.ensures) ∙ c.up.invariant.1
