-- `climbing::way_over_plain` meets its contract.
use Prim.Native.Nat.{◌/◌}
use native.Mathlib.Omega.{arith}
use native.Mathlib.Numerals.{add-one}
use Rattle.std.proofs.Common.{sym, ◌∙◌, ap}
use Rattle.matrix.specs.declared.Name.TheVariants.{Plain}
use Rattle.matrix.specs.Reading.{state_of}
use Rattle.laws.specs.Bounded.{any_miss}
use Rattle.cells.specs.Station.{right_shape}
use Rattle.row_search.specs.Blocks.{block_has}
use Rattle.states.specs.Reads.{top_is}
use Rattle.masks.specs.Lowest.{least_most, none_lower}
use Rattle.question.specs.Trust.{trusted_by}
use Rattle.route.specs.Rise.{rises}
use Rattle.ways.specs.Ways.{riser}
use Rattle.rising.specs.Shut.{shut_none}
use Rattle.climbing.specs.Over.{some_rises, riser_rises, over_first, over_none, unowned}
use Rattle.climbing.proofs.way_over_plain.Goals as goal

pub overflow_mul-first : goal.overflow_mul-first
overflow_mul-first c =
    let z = c.args in
    record { fits = omega (arith, (right_shape z.r.now.station).high, c.first_block-first.ensures, least_most (z.r.now.f.n / 4) (block_has z.r.now.b.now z.o 0)) }

pub loop-w-init : goal.loop-w-init
loop-w-init c = record { none_below = unowned (trusted_by c.args.trust) c.requires c.first_block-first.ensures; shut = shut_none _ _ }

pub returns-then-is_some : goal.returns-then-is_some
returns-then-is_some c =
    let z = c.args in
    let S = state_of z.r.now.b.now in
    let i = c.loop-w.invariant in
    let met = c.owner_rise-met.ensures in
    record {
      risen =
          over_first S (trusted_by z.trust) (Plain z.o) (omega (arith, top_is _ _ z.r.now.station, c.loop-w-test.true)) i.none_below
          (ap rises met.risen ∙ some_rises _ ∙ sym c.is_some.ensures ∙ c.if-is_some.true)
          ∙ met.risen;
      found = met.found;
    }

pub loop-w-preserved : goal.loop-w-preserved
loop-w-preserved c =
    let z = c.args in
    let i = c.loop-w.invariant in
    record {
      none_below =
          rw add-one (any_miss _ _ i.none_below
          (riser_rises (state_of z.r.now.b.now) (trusted_by z.trust) (Plain z.o) c.loop-w.w ∙ ap rises c.owner_rise-met.ensures.risen ∙ some_rises _ ∙ sym c.is_some.ensures ∙ c.if-is_some.false));
      shut = c.owner_rise-met.ensures.shut;
    }

pub returns : goal.returns
returns c =
    let z = c.args in
    record {
      risen =
          over_none (state_of z.r.now.b.now) (trusted_by z.trust) (Plain z.o)
          (none_lower (riser (state_of z.r.now.b.now) (trusted_by z.trust) (Plain z.o)) (omega (arith, top_is _ _ z.r.now.station, c.loop-w-test.false)) c.loop-w.invariant.none_below);
      found = tt;
    }
