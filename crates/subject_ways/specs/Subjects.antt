-- Commands over a subject that are accepted on a valid record: codes 6, 12 and 13.
use Rattle.std.specs.Prelude.{ℕ, ◌<◌, ◌≡◌, refl, true, false, List}
use Rattle.std.proofs.Common.{sym, subst}
use Rattle.matrix.specs.declared.Name.TheVariants.{Subject}
use Rattle.matrix.specs.declared.Right.TheVariants.{Own, Control}
use Rattle.matrix.specs.declared.Act.{Act}
use Rattle.matrix.specs.declared.Act.TheVariants.{Grant, CreateSubject, DestroySubject}
use Rattle.matrix.specs.declared.Command.{Command}
use Rattle.matrix.specs.declared.Fields.{Fields}
use Rattle.matrix.specs.Answers.{Accepted}
use Rattle.matrix.specs.declared.Shape.{Shape}
use Rattle.matrix.specs.Names.{name_of}
use Rattle.matrix.specs.State.{State, exists, put}
use Rattle.matrix.specs.Tests.{other_controller}
use Rattle.matrix.specs.Changes.{change}
use Rattle.matrix.specs.Reading.{state_of}
use Rattle.laws.specs.Tests.{and_both}
use Rattle.codec.specs.Columns.{subject_named}
use Rattle.rules.specs.Needs.{ActIn, CommandIn}
use Rattle.bits.specs.Became.{Became}
use Rattle.short_ways.specs.Answered.{Answered}
use Rattle.short_ways.specs.Ready.{row_i, row_s, name_o, doing}
use Rattle.short_ways.specs.Accepting.{answered_accepted}
use Rattle.short_ways.specs.WithoutBasic.{WithoutBasic}

module _ {b : List ℕ} {f : Shape} (c : Fields) (h : WithoutBasic b f c) where
  abbrev S : State
  S = state_of b

  -- the command is on names of the record
  pub on_names : {d : Command} (act : Act) → d ≡ doing f.n c act → ActIn f act → CommandIn b f d
  on_names act e right =
      subst (CommandIn b f) (sym e)
      (record { station = h.station; initiator = row_i f c h.names; subject = row_s f c h.names; object = name_o f c h.names; right = right })

  pub answered_created : {b' : List ℕ} → c.code ≡ 12 → c.o ≡ 0 → exists S c.i ≡ true → exists S c.s ≡ false
      → Became b b' (change S (doing f.n c CreateSubject) CreateSubject) → Answered b b' c (Accepted 0)
  answered_created e z i free w =
      answered_accepted c h.station h.names CreateSubject (rw e refl) (rw e refl) (rw (e, z, h.none) refl)
      (i, (refl, (refl, (rw free refl, (refl, (refl, (refl, (refl, tt)))))))) refl w

  -- where i owns a subject, both exist
  owner : (s : ℕ) → S.owns c.i (Subject s) ≡ true → exists S c.i ≡ true
  owner s owned = h.valid.row Own c.i (Subject s) owned

  subject : (s : ℕ) → S.owns c.i (Subject s) ≡ true → exists S s ≡ true
  subject s owned = h.valid.column Own c.i (Subject s) owned

  pub answered_destroyed : {b' : List ℕ} → c.code ≡ 13 → c.o ≡ 0 → S.owns c.i (Subject c.s) ≡ true
      → Became b b' (change S (doing f.n c DestroySubject) DestroySubject) → Answered b b' c (Accepted 0)
  answered_destroyed e z owned w =
      answered_accepted c h.station h.names DestroySubject (rw e refl) (rw e refl) (rw (e, z, h.none) refl)
      (owner c.s owned, (refl, (subject c.s owned, (refl, (owned, (refl, (refl, (refl, tt)))))))) refl w

  pub answered_controlled : {b' : List ℕ} → c.code ≡ 6 → c.o < f.n → exists S c.s ≡ true → S.owns c.i (Subject c.o) ≡ true
      → other_controller S (Subject c.o) ≡ false → Became b b' (put Control c.s (Subject c.o) true S) → Answered b b' c (Accepted 0)
  answered_controlled e l there owned nobody w =
      let x : name_of f.n c.o ≡ Subject c.o = subject_named f.n c.o l in
      answered_accepted c h.station h.names (Grant Control) (rw e refl) (rw e refl) (rw (e, h.none) refl)
      (rw x (owner c.o owned, (refl, (and_both there (subject c.o owned), (refl, (owned, (refl, (refl, (rw nobody refl, tt)))))))))
      refl (rw x w)
