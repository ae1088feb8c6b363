-- `decoding::rule_of` meets its contract: each arm is a row, or two, of the table.
use native.Mathlib.Omega.{arith}
use mathlib.Core.Path.{refl}
use Rattle.matrix.specs.declared.Act.TheVariants.{Transfer, Grant, Delete}
use Rattle.decoding.specs.Decoded.{ruled_of}
use Rattle.decoding.specs.Arms.{one_row, two_rows, below_codes, above_codes}
use Rattle.decoding.proofs.rule_of.Goals as goal

pub returns-in-1-to-2 : goal.returns-in-1-to-2
unfolding ruled_of
returns-in-1-to-2 c = two_rows Transfer 1 c.args.code _ (omega arith) (omega arith) c.form_from.ensures c.over_basic.ensures refl refl

pub returns-in-4-to-5 : goal.returns-in-4-to-5
unfolding ruled_of
returns-in-4-to-5 c = two_rows Grant 4 c.args.code _ (omega arith) (omega arith) c.form_from-in-4-to-5.ensures c.over_basic-in-4-to-5.ensures refl refl

pub returns-in-8-to-9 : goal.returns-in-8-to-9
unfolding ruled_of
returns-in-8-to-9 c = two_rows Delete 8 c.args.code _ (omega arith) (omega arith) c.form_from-in-8-to-9.ensures c.over_basic-in-8-to-9.ensures refl refl

pub returns-in-3 : goal.returns-in-3
unfolding ruled_of
returns-in-3 c = one_row 3 c.args.code _ c.in-3.is c.over_name.ensures refl

pub returns-in-6 : goal.returns-in-6
unfolding ruled_of
returns-in-6 c = one_row 6 c.args.code _ c.in-6.is c.over_name-in-6.ensures refl

pub returns-in-7 : goal.returns-in-7
unfolding ruled_of
returns-in-7 c = one_row 7 c.args.code _ c.in-7.is c.over_name-in-7.ensures refl

pub returns-in-10 : goal.returns-in-10
unfolding ruled_of
returns-in-10 c = one_row 10 c.args.code _ c.in-10.is c.of_object.ensures refl

pub returns-in-11 : goal.returns-in-11
unfolding ruled_of
returns-in-11 c = one_row 11 c.args.code _ c.in-11.is c.of_object-in-11.ensures refl

pub returns-in-12 : goal.returns-in-12
unfolding ruled_of
returns-in-12 c = one_row 12 c.args.code _ c.in-12.is c.of_subject.ensures refl

pub returns-in-13 : goal.returns-in-13
unfolding ruled_of
returns-in-13 c = one_row 13 c.args.code _ c.in-13.is c.of_subject-in-13.ensures refl

pub returns-in_default : goal.returns-in_default
returns-in_default c = below_codes c.args.code c.args.k (omega arith)

pub returns-in_default-2 : goal.returns-in_default-2
returns-in_default-2 c = above_codes c.args.code c.args.k (omega arith)
