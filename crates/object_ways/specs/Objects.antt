-- Commands over a plain object that are accepted on a valid record: codes 3, 7, 10 and 11.
use Rattle.std.specs.Prelude.{ℕ, ◌<◌, ◌≡◌, refl, Bool, true, false, cond, ◌&&◌, List}
use Rattle.std.proofs.Common.{ap}
use Rattle.std.proofs.lemmas.Bool.{not-true}
use Rattle.matrix.specs.declared.Name.{Name}
use Rattle.matrix.specs.declared.Right.TheVariants.{Own}
use Rattle.matrix.specs.declared.Act.TheVariants.{Transfer, Grant, CreateObject, DestroyObject}
use Rattle.matrix.specs.declared.Kind.TheVariants.{PlainName}
use Rattle.matrix.specs.declared.Fields.{Fields}
use Rattle.matrix.specs.Answers.{Accepted}
use Rattle.matrix.specs.declared.Shape.{Shape}
use Rattle.matrix.specs.Names.{is_subject, name_of}
use Rattle.matrix.specs.State.{State, exists, exists_name, put, clear}
use Rattle.matrix.specs.Tests.{kind_fits}
use Rattle.matrix.specs.Changes.{in_column}
use Rattle.matrix.specs.Reading.{state_of}
use Rattle.laws.specs.Tests.{and_both}
use Rattle.states.specs.Needs.{BitIn}
use Rattle.codec.specs.Columns.{put_set}
use Rattle.bits.specs.Became.{Became}
use Rattle.bits.specs.Steps.{became_as, became_then}
use Rattle.short_ways.specs.Answered.{Answered}
use Rattle.short_ways.specs.Ready.{name_is}
use Rattle.short_ways.specs.Accepting.{answered_accepted}
use Rattle.short_ways.specs.WithoutBasic.{WithoutBasic}

-- own of its o is a bit of the record
pub own_in : {b : List ℕ} {f : Shape} {w : ℕ} {x : Name} (c : Fields) → WithoutBasic b f c → w < f.n → x ≡ name_of f.n c.o → BitIn b f Own w x
own_in {f = f} c h row e = record { station = h.station; right = tt; row = row; column = name_is f c e h.names }

-- own over z put for i, and then set for s
pub own_given : {b b₁ b₂ : List ℕ} {x z : Name} (c : Fields) (keeps : Bool) → x ≡ z → Became b b₁ (put Own c.i x keeps (state_of b))
    → Became b₁ b₂ (put Own c.s x true (state_of b₁)) → Became b b₂ (put Own c.s z true (put Own c.i z keeps (state_of b)))
own_given {b} {x = x} c keeps e h g =
    became_as (became_then (λ (T : State). put Own c.s x true T) h g) (ap (λ (y : Name). put Own c.s y true (put Own c.i y keeps (state_of b))) e)

module _ {b : List ℕ} {f : Shape} (c : Fields) (h : WithoutBasic b f c) (plain : kind_fits PlainName (name_of f.n c.o) ≡ true) where
  abbrev S : State
  S = state_of b

  abbrev x : Name
  x = name_of f.n c.o

  no_subject : is_subject x ≡ false
  no_subject = not-true (is_subject x) plain

  -- where i owns x, both exist
  initiator : S.owns c.i x ≡ true → exists S c.i ≡ true
  initiator owned = h.valid.row Own c.i x owned

  object : S.owns c.i x ≡ true → exists_name S x ≡ true
  object owned = h.valid.column Own c.i x owned

  both : exists S c.s ≡ true → S.owns c.i x ≡ true → (exists S c.s && exists_name S x) ≡ true
  both there owned = and_both there (object owned)

  pub answered_create : {b' : List ℕ} → c.code ≡ 10 → c.s ≡ 0 → exists S c.i ≡ true → exists_name S x ≡ false → Became b b' (put Own c.i x true S)
      → Answered b b' c (Accepted 0)
  answered_create e z i free w =
      answered_accepted c h.station h.names CreateObject (rw e refl) (rw e refl) (rw (e, z, h.none) refl)
      (i, (plain, (refl, (rw free refl, (refl, (refl, (refl, (refl, tt)))))))) refl w

  pub answered_destroy : {b' : List ℕ} → c.code ≡ 11 → c.s ≡ 0 → S.owns c.i x ≡ true → Became b b' (clear (in_column x) S) → Answered b b' c (Accepted 0)
  answered_destroy e z owned w =
      answered_accepted c h.station h.names DestroyObject (rw e refl) (rw e refl) (rw (e, z, h.none) refl)
      (initiator owned, (plain, (object owned, (refl, (owned, (refl, (refl, (refl, tt)))))))) refl w

  -- s gets own, and i keeps its own (code 7) or not (code 3)
  pub answered_given : {b' : List ℕ} (keeps : Bool) → c.code ≡ cond keeps 7 3 → exists S c.s ≡ true → S.owns c.i x ≡ true
      → Became b b' (put Own c.s x true (put Own c.i x keeps S)) → Answered b b' c (Accepted 0)
  answered_given true e there owned w =
      answered_accepted c h.station h.names (Grant Own) (rw e refl) (rw e refl) (rw (e, h.none) refl)
      (initiator owned, (plain, (both there owned, (refl, (owned, (refl, (refl, (refl, tt)))))))) refl
      (became_as w (ap (λ (T : State). put Own c.s x true T) (put_set Own c.i x S S refl (λ z v u e. refl) owned)))
  answered_given false e there owned w =
      answered_accepted c h.station h.names (Transfer Own) (rw e refl) (rw e refl) (rw (e, h.none) refl)
      (initiator owned, (refl, (both there owned, (refl, (owned, (refl, (rw no_subject refl, (refl, tt)))))))) (rw no_subject refl) w
