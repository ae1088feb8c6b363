-- A command that passes every test, by its fields: it is accepted.
use Rattle.std.specs.Prelude.{ℕ, ◌≡◌, true, List, eqb}
use Rattle.std.proofs.Math.Path.{refl, sym, ap}
use Rattle.std.proofs.Common.{◌∙◌}
use Rattle.std.proofs.Math.Bool.{cond}
use Rattle.matrix.specs.declared.Act.{Act}
use Rattle.matrix.specs.declared.Fields.{Fields}
use Rattle.matrix.specs.Answers.{Accepted}
use Rattle.matrix.specs.declared.Shape.{Shape}
use Rattle.matrix.specs.State.{State}
use Rattle.matrix.specs.Commands.{kind_of, known, rule_of, fields_fit}
use Rattle.matrix.specs.Tests.{command_tests}
use Rattle.matrix.specs.Changes.{change}
use Rattle.matrix.specs.Step.{refusal_of, walk_links, links_with, answer}
use Rattle.matrix.specs.Shape.{basics_of}
use Rattle.matrix.specs.Reading.{state_of}
use Rattle.matrix.specs.Calls.{names_fit}
use Rattle.laws.specs.Passed.{Passed, all_passed}
use Rattle.cells.specs.Station.{Station}
use Rattle.bits.specs.Became.{Became}
use Rattle.bits.specs.Steps.{became_as}
use Rattle.short_ways.specs.Answered.{Answered, Carried}
use Rattle.short_ways.specs.Ready.{doing, DecodedTo}
use Rattle.short_ways.specs.Outcomes.{answered_decoded}

module _ {b : List ℕ} {f : Shape} (c : Fields) (station : Station b f) (names : names_fit f c ≡ true) where
  abbrev S : State
  S = state_of b

  -- without links, where the command makes no walk
  pub answered_accepted : (act : Act) {b' : List ℕ} → (rule_of c.code c.k).act ≡ act → known c.code ≡ true
      → fields_fit (basics_of f) (rule_of c.code c.k) c.s c.o c.k ≡ true → Passed (command_tests S (doing f.n c act)) → walk_links S (doing f.n c act) act ≡ 0
      → Became b b' (change S (doing f.n c act) act) → Answered b b' c (Accepted 0)
  unfolding refusal_of
  answered_accepted act {b'} row code fields passed none w =
      let e : refusal_of S (doing f.n c act) ≡ 0 = all_passed (command_tests S (doing f.n c act)) passed in
      let decoded : DecodedTo f c (doing f.n c act) (kind_of act) =
      record { fits = record { code = code; names = names; fields = fields }; command = sym (ap (doing f.n c) row); kind_needed = refl } in
      let whole : Carried b b' (doing f.n c act) (Accepted 0) =
      record {
        reply = sym (ap (λ (m : ℕ). answer m (links_with m S (doing f.n c act))) e ∙ ap (λ (l : ℕ). answer 0 l) none);
        became = became_as w (sym (ap (λ (m : ℕ). cond (eqb m 0) (change S (doing f.n c act) act) S) e));
      } in
      answered_decoded b f station c decoded whole
