-- `converting::convert` meets its contract: the answer is the refusal after 1 to 5, or the new record stands before the output's rest.
use Prim.Native.Nat.{ℕ}
use native.Mathlib.Omega.{arith}
use mathlib.Core.Path.{sym, ◌∙◌, ap, ap₂}
use mathlib.Core.List.{List, ◌++◌}
use lib.ListN.{drop}
use lib.Seq.{length-take-le}
use Rattle.matrix.specs.Numbers.{numbers}
use Rattle.cell_words.specs.Wanted.{Wanted, wanted_in, wanted_right}
use Rattle.converting.specs.Answers.{high, short, written}
use Rattle.converting.proofs.convert.Goals as goal
use Rattle.converting.proofs.convert.Goals.{After-shape_in-g}

wanted : (c : After-shape_in-g) → Wanted c.args.b.now c.args.f c.shape_in-g.result
wanted c = wanted_in c.args.version c.requires.0 c.requires.2 c.shape_in-g.ensures

pub size_of-size-requires : goal.size_of-size-requires
size_of-size-requires c = wanted_right (wanted c)

pub too_wide-requires : goal.too_wide-requires
too_wide-requires c = wanted (goal.at.too_wide-requires c).After-shape_in-g

pub returns-then-too_wide : goal.returns-then-too_wide
returns-then-too_wide c =
    let a = c.args in
    let q = high a.version a.b.now a.out.now c.requires.0.shape c.shape_in-g.ensures c.requires.1 (sym c.too_wide.ensures ∙ c.if-too_wide.true) in
    record { result = q.result; output = q.output }

pub returns-then-out-size : goal.returns-then-out-size
returns-then-out-size c =
    let a = c.args in
    let q = short a.version a.b.now a.out.now c.requires.0.shape c.shape_in-g.ensures c.requires.1 (sym c.too_wide.ensures ∙ c.if-too_wide.false) (omega (arith, c.size_of-size.ensures)) in
    record { result = q.result; output = q.output }

pub fill-requires : goal.fill-requires
fill-requires c =
    let long = length-take-le c.size_of-size.result c.args.out.now c.if-out-size.false in
    (record { wanted = wanted (goal.at.fill-requires c).After-shape_in-g; none = sym c.too_wide.ensures ∙ c.if-too_wide.false }, long ∙ c.size_of-size.ensures)

pub returns : goal.returns
returns c =
    let a = c.args in
    let q = written a.version a.b.now a.out.now c.requires.0.shape c.shape_in-g.ensures c.requires.1 (sym c.too_wide.ensures ∙ c.if-too_wide.false) (omega (arith, c.size_of-size.ensures)) in
    record {
      result = ap (numbers 0) c.size_of-size.ensures ∙ q.result;
      output = ap₂ {C = List ℕ} (λ x m. x ++ drop m a.out.now) c.fill.ensures c.size_of-size.ensures ∙ q.output;
    }
