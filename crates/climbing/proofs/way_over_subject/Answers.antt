-- `climbing::way_over_subject` meets its contract: nobody but its owner owns v.
use Rattle.std.proofs.Common.{refl, sym, ◌∙◌, ap, subst}
use Rattle.question.specs.Trust.{trusted_by}
use Rattle.row_search.specs.SomeBelow.{some_was, none_was}
use Rattle.rising.specs.Rises.{risen_to, Found}
use Rattle.rising.specs.Shut.{shut_none}
use Rattle.rising.specs.Valid.{guessed_of}
use Rattle.climbing.specs.Over.{subject_lost, subject_rises}
use Rattle.climbing.proofs.way_over_subject.Goals as goal

pub owner_of-requires : goal.owner_of-requires
owner_of-requires c = let r = c.args.r.now in (guessed_of r.station r.valid r.size, c.requires)

pub returns-in_err-w : goal.returns-in_err-w
returns-in_err-w c =
    let r = c.args.r.now in
    record {
      risen = subject_lost (guessed_of r.station r.valid r.size) c.args.v refl (trusted_by c.args.trust) (none_was c.in_err-w.ensures) ∙ ap risen_to (sym c.from_residual.ensures);
      found = subst (Found r.f.n) (sym c.from_residual.ensures) tt;
    }

pub rise_from-requires : goal.rise_from-requires
rise_from-requires c = ((some_was c.in_ok-w.ensures).0, shut_none _ _)

pub returns : goal.returns
returns c =
    let r = c.args.r.now in
    let w = some_was c.in_ok-w.ensures in
    record {
      risen = subject_rises (guessed_of r.station r.valid r.size) c.args.v w.1 (trusted_by c.args.trust) w.0 ∙ c.rise_from.ensures.risen;
      found = c.rise_from.ensures.found;
    }
