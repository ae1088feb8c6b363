-- `decoding::decode` meets its contract.
use mathlib.Core.Path.{◌≡◌, sym, ◌∙◌}
use mathlib.Core.Bool.{true}
use Rattle.matrix.specs.Calls.{names_fit}
use Rattle.decoding.specs.Decides.{RowFound, found, refused_6, names_7, fields_7, ready}
use Rattle.decoding.proofs.decode.Goals as goal
use Rattle.decoding.proofs.decode.Goals.{After-basics_of}

pub returns-in_default : goal.returns-in_default
returns-in_default c = refused_6 _ _ c.rule_of.ensures c.in_default.is

pub returns-then-not-names_fit : goal.returns-then-not-names_fit
returns-then-not-names_fit c = names_7 _ _ (found _ c.rule_of.ensures c.in-Some.is) (sym c.names_fit.ensures ∙ c.if-not-names_fit.true)

-- the row that was found, and the names that fit
row : (c : After-basics_of) → RowFound c.args.c c.in-Some.r
row c = found _ c.rule_of.ensures c.in-Some.is

names : (c : After-basics_of) → names_fit c.args.f c.args.c ≡ true
names c = sym c.names_fit.ensures ∙ c.if-not-names_fit.false

pub returns-then-not-fields_fit : goal.returns-then-not-fields_fit
returns-then-not-fields_fit c =
    fields_7 _ _ (row (goal.at.returns-then-not-fields_fit c).After-basics_of) (names (goal.at.returns-then-not-fields_fit c).After-basics_of) c.basics_of.ensures (sym c.fields_fit.ensures ∙ c.if-not-fields_fit.true)

pub returns : goal.returns
returns c =
    ready _ _ (row (goal.at.returns c).After-basics_of) (names (goal.at.returns c).After-basics_of) c.basics_of.ensures (sym c.fields_fit.ensures ∙ c.if-not-fields_fit.false) c.name_of-o.ensures
