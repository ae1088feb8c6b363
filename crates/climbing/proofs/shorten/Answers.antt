-- `climbing::shorten` meets its contract: what is needed of a path is its first part.
use native.Mathlib.Omega.{arith}
use Rattle.std.proofs.Common.{ℕ, List, length, take, ◌∙◌, ap}
use Rattle.matrix.specs.declared.Name.TheVariants.{Plain}
use Rattle.matrix.specs.Reading.{state_of}
use Rattle.route.specs.Parts.{until_owner}
use Rattle.climbing.specs.Needed.{until_few, until_take}
use Rattle.climbing.proofs.shorten.Goals as goal

pub keep_last-requires : goal.keep_last-requires
keep_last-requires c =
    let z = c.args in
    let owns = (state_of z.r.now.b.now).owns in
    omega (arith, until_few owns (Plain z.o) z.path.now, c.needed_of-k.ensures ∙ ap (λ (ws : List ℕ). length (until_owner owns (Plain z.o) ws)) c.subjects-subjects.ensures)

pub returns : goal.returns
returns c =
    let z = c.args in
    let owns = (state_of z.r.now.b.now).owns in
    c.keep_last.ensures ∙ ap (λ (k : ℕ). take k z.path.now) (c.needed_of-k.ensures ∙ ap (λ (ws : List ℕ). length (until_owner owns (Plain z.o) ws)) c.subjects-subjects.ensures)
    ∙ until_take owns (Plain z.o) z.path.now
