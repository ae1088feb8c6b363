-- `short_ways::put_allowed` meets its contract.
use mathlib.Core.Path.{sym, ◌∙◌, ap₂}
use Rattle.matrix.specs.declared.Name.{Name}
use Rattle.matrix.specs.declared.Form.{Form}
use Rattle.matrix.specs.declared.Right.TheVariants.{Basic}
use Rattle.matrix.specs.State.{has, put}
use Rattle.matrix.specs.Reading.{state_of}
use Rattle.bits.specs.Steps.{became_as}
use Rattle.short_ways.specs.Ready.{row_i, row_s, name_is}
use Rattle.short_ways.specs.Allowed.{left_alone, made, subject_fits, at_name}
use Rattle.short_ways.proofs.put_allowed.Goals as goal

pub subject_fits-requires : goal.subject_fits-requires
subject_fits-requires c =
    record {
      station = c.requires.0;
      right = c.requires.2;
      row = row_s c.args.f c.args.c c.requires.1;
      column = name_is c.args.f c.args.c c.name_of-o.ensures c.requires.1;
    }

pub returns-then-not-subject_fits : goal.returns-then-not-subject_fits
returns-then-not-subject_fits c = left_alone

pub has_bit-requires : goal.has_bit-requires
has_bit-requires c =
    record {
      station = c.requires.0;
      right = c.requires.3;
      row = row_i c.args.f c.args.c c.requires.1;
      column = name_is c.args.f c.args.c c.name_of-o.ensures c.requires.1;
    }

pub returns-then-not-has_bit : goal.returns-then-not-has_bit
returns-then-not-has_bit c = left_alone

pub put_right-requires : goal.put_right-requires
put_right-requires c =
    record {
      station = c.requires.0;
      right = c.requires.2;
      row = row_s c.args.f c.args.c c.requires.1;
      column = name_is c.args.f c.args.c c.name_of-o.ensures c.requires.1;
    }

pub returns : goal.returns
returns c =
    let z = c.args in
    let x = c.name_of-o.ensures in
    let g = c.form_from-form.ensures in
    made
    record {
      fits =
          sym (ap₂ (λ (f : Form) (x : Name). subject_fits (state_of z.b.now) (Basic z.c.k f) z.c.s x z.on) g x) ∙ sym c.subject_fits.ensures
          ∙ c.if-not-subject_fits.false;
      held = at_name (λ (x : Name). has (state_of z.b.now) z.y z.c.i x) x c.has_bit.ensures c.if-not-has_bit.false;
      became =
          became_as c.put_right.ensures
          (ap₂ (λ (f : Form) (x : Name). put (Basic z.c.k f) z.c.s x z.on (state_of z.b.now)) g x);
    }
