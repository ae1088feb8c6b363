-- The definition's refusal, links and next state of a command, from how it is decoded.
use Rattle.std.specs.Prelude.{ℕ, ◌≡◌, Bool, true, false, ◌&&◌, ◌||◌, List, [], ◌∷◌, eqb}
use Rattle.std.proofs.Math.Path.{refl, ap}
use Rattle.std.proofs.Common.{sym, ◌∙◌, ap₂, subst}
use Rattle.std.proofs.Math.Bool.{cond}
use Rattle.matrix.specs.declared.Kind.{Kind}
use Rattle.matrix.specs.declared.Fields.{Fields}
use Rattle.matrix.specs.declared.Command.{Command}
use Rattle.matrix.specs.Answers.{Answer}
use Rattle.matrix.specs.Answers.{Refused}
use Rattle.matrix.specs.declared.Shape.{Shape}
use Rattle.matrix.specs.Names.{name_of, column_of}
use Rattle.matrix.specs.State.{State}
use Rattle.matrix.specs.Commands.{known, rule_of, fields_fit, decode}
use Rattle.matrix.specs.Tests.{test, first_failed}
use Rattle.matrix.specs.Changes.{change}
use Rattle.matrix.specs.Step.{refusal_of, walk_links, links_with, refusal, links, next, answer}
use Rattle.matrix.specs.Shape.{shape_of, basics_of}
use Rattle.matrix.specs.Reading.{state_of}
use Rattle.matrix.specs.Calls.{raw_of, names_fit, refusal_on, links_on, next_on}
use Rattle.laws.specs.Tests.{clash, and_right, and_both}
use Rattle.laws.specs.Passed.{itself}
use Rattle.codec.specs.Columns.{column_of_name_of}
use Rattle.cells.specs.Station.{Station}
use Rattle.rules.specs.Needs.{ActIn, CommandIn}
use Rattle.short_ways.specs.Answered.{Answered, Carried}
use Rattle.short_ways.specs.Rows.{row_right}
use Rattle.short_ways.specs.Ready.{row_i, row_s, name_o, command_of, DecodedTo, fits_all, RefusedBy}

-- the tests 6 and 7, and then the refusal m of the decoded command
three_tests : (t u : Bool) (m : ℕ) → first_failed (test 6 t ∷ test 7 u ∷ test m (eqb m 0) ∷ []) ≡ cond t (cond u m 7) 6
unfolding first_failed
three_tests true true m = itself m
three_tests true false m = refl
three_tests false u m = refl

unfit : (t u : Bool) (m : ℕ) → (t && u) ≡ false → cond t (cond u m 7) 6 ≡ cond t 7 6
unfit true true m h = absurd (clash refl h)
unfit true false m h = refl
unfit false u m h = refl

refused_reply : (t : Bool) {r l : ℕ} → r ≡ cond t 7 6 → l ≡ 0 → Refused (cond t 7 6) 0 ≡ answer r l
refused_reply true e f = sym (ap₂ (λ (r l : ℕ). answer r l) e f)
refused_reply false e f = sym (ap₂ (λ (r l : ℕ). answer r l) e f)

refused_none : {A : Type 0} (t : Bool) (x y : A) → cond (eqb (cond t 7 6) 0) x y ≡ y
refused_none true x y = refl
refused_none false x y = refl

refused_links : {A : Type 0} (t : Bool) (x y : A) → cond (eqb (cond t 7 6) 0 || eqb (cond t 7 6) 13) x y ≡ y
refused_links true x y = refl
refused_links false x y = refl

module _ (b : List ℕ) (f : Shape) (station : Station b f) (c : Fields) where
  abbrev S : State
  S = state_of b

  abbrev d : Command
  d = decode (raw_of (shape_of b) c)

  same_command : d ≡ command_of f.n c
  same_command = ap (λ (e : Shape). command_of e.n c) (sym station.shape)

  fits_same : (names_fit (shape_of b) c && fields_fit (basics_of (shape_of b)) (rule_of c.code c.k) c.s (column_of (name_of (shape_of b).n c.o)) c.k) ≡ fits_all f c
  fits_same =
      ap (λ (o : ℕ). names_fit (shape_of b) c && fields_fit (basics_of (shape_of b)) (rule_of c.code c.k) c.s o c.k) (column_of_name_of (shape_of b).n c.o)
      ∙ ap (λ (e : Shape). fits_all e c) (sym station.shape)

  refusal_is : refusal_on (shape_of b) S c ≡ cond (known c.code) (cond (fits_all f c) (refusal_of S d) 7) 6
  unfolding refusal_on refusal
  refusal_is = three_tests (known c.code) _ (refusal_of S d) ∙ ap (λ (u : Bool). cond (known c.code) (cond u (refusal_of S d) 7) 6) fits_same

  links_are : links_on (shape_of b) S c ≡ links_with (refusal_on (shape_of b) S c) S d
  unfolding links_on links refusal_on
  links_are = refl

  next_is : next_on (shape_of b) S c ≡ cond (eqb (refusal_on (shape_of b) S c) 0) (change S d d.act) S
  unfolding next_on next refusal_on
  next_is = refl

  -- a command that is not decoded
  pub answered_refused : {m : ℕ} → RefusedBy f c m → Answered b b c (Refused m 0)
  answered_refused {m} w =
      let e : refusal_on (shape_of b) S c ≡ cond (known c.code) 7 6 = refusal_is ∙ unfit (known c.code) (fits_all f c) (refusal_of S d) w.unfit in
      let l : links_on (shape_of b) S c ≡ 0 = links_are ∙ ap (λ (r : ℕ). links_with r S d) e ∙ refused_links (known c.code) (walk_links S d d.act) 0 in
      let s : next_on (shape_of b) S c ≡ S = next_is ∙ ap (λ (r : ℕ). cond (eqb r 0) (change S d d.act) S) e ∙ refused_none (known c.code) (change S d d.act) S in
      record {
        reply = ap (λ (m : ℕ). Refused m 0) w.number ∙ refused_reply (known c.code) e l;
        became = record { shaped = station.shaped; octets = station.octets; shape = refl; state = sym s };
      }

  -- a decoded command
  pub answered_decoded : {b' : List ℕ} {d' : Command} {kind : Kind} {r : Answer} → DecodedTo f c d' kind → Carried b b' d' r → Answered b b' c r
  answered_decoded {b'} {d'} {r = r} w h =
      let q : d' ≡ d = w.command ∙ sym same_command in
      let k : known c.code ≡ true = w.fits.code in
      let g : fits_all f c ≡ true = and_both w.fits.names w.fits.fields in
      let e : refusal_on (shape_of b) S c ≡ refusal_of S d = refusal_is ∙ rw (k, g) refl in
      let l : links_on (shape_of b) S c ≡ links_with (refusal_of S d) S d = links_are ∙ ap (λ (r : ℕ). links_with r S d) e in
      let s : next_on (shape_of b) S c ≡ cond (eqb (refusal_of S d) 0) (change S d d.act) S = next_is ∙ ap (λ (r : ℕ). cond (eqb r 0) (change S d d.act) S) e in
      let a : r ≡ answer (refusal_of S d) (links_with (refusal_of S d) S d) = h.reply ∙ ap (λ (d : Command). answer (refusal_of S d) (links_with (refusal_of S d) S d)) q in
      let t : state_of b' ≡ cond (eqb (refusal_of S d) 0) (change S d d.act) S = h.became.state ∙ ap (λ (d : Command). cond (eqb (refusal_of S d) 0) (change S d d.act) S) q in
      record {
        reply = a ∙ sym (ap₂ (λ (r l : ℕ). answer r l) e l);
        became = record { shaped = h.became.shaped; octets = h.became.octets; shape = h.became.shape; state = t ∙ sym s };
      }

  -- a decoded command is on names and rights of the record
  pub command_in : {d' : Command} {kind : Kind} → DecodedTo f c d' kind → CommandIn b f d'
  command_in {d'} w =
      let names = w.fits.names in
      let k : ActIn f (rule_of c.code c.k).act = row_right f c.code c.k (and_right (((rule_of c.code c.k).s || eqb c.s 0) && ((rule_of c.code c.k).o || eqb c.o 0)) _ w.fits.fields) in
      let whole : CommandIn b f (command_of f.n c) =
      record {
        station = station;
        initiator = row_i f c names;
        subject = row_s f c names;
        object = name_o f c names;
        right = k;
      } in
      subst (λ (d : Command). CommandIn b f d) (sym w.command) whole
