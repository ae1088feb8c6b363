-- The tests 12, 19, 13 and 14: what each ends in, with the links that go with it.
use Rattle.std.specs.Prelude.{ℕ, ◌≡◌, Bool, true, false, not, cond, ◌&&◌, ◌||◌, List, eqb}
use Rattle.std.proofs.Math.Path.{refl}
use Rattle.std.proofs.Common.{sym, ◌∙◌, ap, ne_eqb}
use Rattle.std.proofs.lemmas.Bool.{false≢true}
use Rattle.matrix.specs.declared.Name.{Name}
use Rattle.matrix.specs.declared.Name.TheVariants.{Subject, Plain}
use Rattle.matrix.specs.declared.Right.TheVariants.{Own, Control, Basic}
use Rattle.matrix.specs.declared.Act.{Act}
use Rattle.matrix.specs.declared.Act.TheVariants.{Transfer, Grant, Delete, CreateObject, DestroyObject, CreateSubject, DestroySubject}
use Rattle.matrix.specs.declared.Kind.{Kind}
use Rattle.matrix.specs.declared.Kind.TheVariants.{SubjectName}
use Rattle.matrix.specs.declared.Walked.{Walked}
use Rattle.matrix.specs.declared.Walked.TheVariants.{Meets, Root, Lost}
use Rattle.matrix.specs.declared.Command.{Command}
use Rattle.matrix.specs.declared.Shape.{Shape}
use Rattle.matrix.specs.declared.Numbers.{Numbers}
use Rattle.matrix.specs.Names.{is_subject}
use Rattle.matrix.specs.Numbers.{numbers}
use Rattle.matrix.specs.State.{State}
use Rattle.matrix.specs.Commands.{kind_of}
use Rattle.matrix.specs.Owners.{walk, meets, links_of}
use Rattle.matrix.specs.Tests.{first_failed, kind_fits, permitted, deletable, apart, uncontrolled, other_controller}
use Rattle.matrix.specs.Step.{refusal_of, walk_links, links_with}
use Rattle.matrix.specs.Reading.{state_of}
use Rattle.verdict.specs.Stages.{late, early, refusal_stages, early_not_thirteen}
use Rattle.verdict.specs.Judged.{Entitled, JudgedLate, Judged}

module _ (S : State) (c : Command) where
  -- a refusal r of the second stage, with links l
  judged : {r l : ℕ} → late S c ≡ r → cond (eqb r 0 || eqb r 13) (walk_links S c c.act) 0 ≡ l → JudgedLate S c (numbers r l)
  judged e f = record { refusal = sym e; links = sym (ap (λ (m : ℕ). links_with m S c) e ∙ f) }

  pub denied : permitted S c c.act ≡ false → JudgedLate S c (numbers 12 0)
  unfolding late first_failed
  denied h = judged (rw h refl) refl

  pub unset : permitted S c c.act ≡ true → deletable S c c.act ≡ false → JudgedLate S c (numbers 19 0)
  unfolding late first_failed
  unset h d = judged (rw (h, d) refl) refl

  -- the whole verdict from the two stages
  pub judged_early : {r : ℕ} → r ≡ early S c → (r ≡ 0 → ⊥) → Judged S c (numbers r 0)
  judged_early {r} e h =
      let z : eqb (early S c) 0 ≡ false = ne_eqb (early S c) 0 (λ q. h (e ∙ q)) in
      let f : refusal_of S c ≡ early S c = refusal_stages S c ∙ ap (λ (t : Bool). cond t (late S c) (early S c)) z in
      let g : (eqb (early S c) 0 || eqb (early S c) 13) ≡ false = rw (z, early_not_thirteen S c) refl in
      record {
        refusal = e ∙ sym f;
        links = sym (ap (λ (m : ℕ). links_with m S c) f ∙ ap (λ (t : Bool). cond t (walk_links S c c.act) 0) g);
      }

  pub judged_late : {v : Numbers} → early S c ≡ 0 → JudgedLate S c v → Judged S c v
  judged_late h j =
      let f : refusal_of S c ≡ late S c = refusal_stages S c ∙ ap (λ (m : ℕ). cond (eqb m 0) (late S c) m) h in
      record { refusal = j.refusal ∙ sym f; links = j.links ∙ sym (ap (λ (m : ℕ). links_with m S c) f) }

-- a command that has passed 12 and 19
module _ {b : List ℕ} {f : Shape} {c : Command} (h : Entitled b f c) where
  abbrev S : State
  S = state_of b

  met : {l : ℕ} → apart S c c.act ≡ false → walk_links S c c.act ≡ l → JudgedLate S c (numbers 13 l)
  unfolding late first_failed
  met e f = judged S c (rw (h.right, h.set, e) refl) f

  shared : apart S c c.act ≡ true → uncontrolled S c c.act ≡ false → JudgedLate S c (numbers 14 0)
  unfolding late first_failed
  shared e f = judged S c (rw (h.right, h.set, e, f) refl) refl

  passes : {l : ℕ} → apart S c c.act ≡ true → uncontrolled S c c.act ≡ true → walk_links S c c.act ≡ l → JudgedLate S c (numbers 0 l)
  unfolding late first_failed
  passes e f g = judged S c (rw (h.right, h.set, e, f) refl) g

  -- an act that the tests 13 and 14 do not look at
  pass_judged : (a : Act) → c.act ≡ a → apart S c a ≡ true → uncontrolled S c a ≡ true → walk_links S c a ≡ 0 → JudgedLate S c (numbers 0 0)
  pass_judged a e f g l = passes (ap (λ (a : Act). apart S c a) e ∙ f) (ap (λ (a : Act). uncontrolled S c a) e ∙ g) (ap (λ (a : Act). walk_links S c a) e ∙ l)

  -- the tests 13 and 14 look at no act but a transfer of own and a grant of control
  pub other_judged : (a : Act) → c.act ≡ a → (a ≡ Transfer Own → ⊥) → (a ≡ Grant Control → ⊥) → JudgedLate S c (numbers 0 0)
  other_judged (Transfer Own) e t g = absurd (t refl)
  other_judged (Transfer Control) e t g = pass_judged _ e refl refl refl
  other_judged (Transfer (Basic k x)) e t g = pass_judged _ e refl refl refl
  other_judged (Grant Own) e t g = pass_judged _ e refl refl refl
  other_judged (Grant Control) e t g = absurd (g refl)
  other_judged (Grant (Basic k x)) e t g = pass_judged _ e refl refl refl
  other_judged (Delete y) e t g = pass_judged _ e refl refl refl
  other_judged CreateObject e t g = pass_judged _ e refl refl refl
  other_judged DestroyObject e t g = pass_judged _ e refl refl refl
  other_judged CreateSubject e t g = pass_judged _ e refl refl refl
  other_judged DestroySubject e t g = pass_judged _ e refl refl refl

  -- what the tests ask of a transfer of own over the name x
  own_apart : {x : Name} → c.act ≡ Transfer Own → c.o ≡ x → apart S c c.act ≡ not (is_subject x && meets (walk S c.s x))
  own_apart own object = ap (λ (a : Act). apart S c a) own ∙ ap (λ (x : Name). not (is_subject x && meets (walk S c.s x))) object

  own_links : {x : Name} → c.act ≡ Transfer Own → c.o ≡ x → walk_links S c c.act ≡ cond (is_subject x) (links_of (walk S c.s x)) 0
  own_links own object = ap (λ (a : Act). walk_links S c a) own ∙ ap (λ (x : Name). cond (is_subject x) (links_of (walk S c.s x)) 0) object

  -- over a plain object there is no walk
  pub object_judged : {t : ℕ} → c.act ≡ Transfer Own → c.o ≡ Plain t → JudgedLate S c (numbers 0 0)
  object_judged own object = passes (own_apart own object) (ap (λ (a : Act). uncontrolled S c a) own) (own_links own object)

  -- over subject t, with the answer w of the walk
  module _ {t : ℕ} (own : c.act ≡ Transfer Own) (object : c.o ≡ Subject t) where
    pub own_judged : {v : Walked} (w : Walked) → v ≡ walk S c.s (Subject t) → v ≡ w → JudgedLate S c (numbers (cond (meets w) 13 0) (links_of w))
    own_judged w e f =
        let g : walk S c.s (Subject t) ≡ w = sym e ∙ f in
        let a : apart S c c.act ≡ not (meets w) = own_apart own object ∙ ap (λ (w : Walked). not (meets w)) g in
        let l : walk_links S c c.act ≡ links_of w = own_links own object ∙ ap links_of g in
        let u : uncontrolled S c c.act ≡ true = ap (λ (a : Act). uncontrolled S c a) own in
        answered w a l u
      where
        answered : (w : Walked) → apart S c c.act ≡ not (meets w) → walk_links S c c.act ≡ links_of w → uncontrolled S c c.act ≡ true → JudgedLate S c (numbers (cond (meets w) 13 0) (links_of w))
        answered (Meets l) a f u = met a f
        answered (Root l) a f u = passes a u f
        answered Lost a f u = passes a u f

  -- a grant of control over subject t, with the answer r of the search for another controller
  module _ {t : ℕ} (control : c.act ≡ Grant Control) (object : c.o ≡ Subject t) where
    pub control_judged : {r : Bool} (u : Bool) → r ≡ other_controller S (Subject t) → r ≡ u → JudgedLate S c (numbers (cond u 14 0) 0)
    control_judged u e f = answered u (ap (λ (a : Act). uncontrolled S c a) control ∙ ap (λ (x : Name). not (other_controller S x)) object ∙ ap not (sym e ∙ f))
      where
        answered : (u : Bool) → uncontrolled S c c.act ≡ not u → JudgedLate S c (numbers (cond u 14 0) 0)
        answered true g = shared (ap (λ (a : Act). apart S c a) control) g
        answered false g = passes (ap (λ (a : Act). apart S c a) control) g (ap (λ (a : Act). walk_links S c a) control)

  -- o is a subject where the act needs one
  pub not_plain : {t : ℕ} {a : Act} → c.act ≡ a → kind_of a ≡ SubjectName → c.o ≡ Plain t → ⊥
  not_plain e k o =
      false≢true (ap (λ (x : Name). kind_fits SubjectName x) (sym o) ∙ ap (λ (k : Kind). kind_fits k c.o) (sym (ap kind_of e ∙ k)) ∙ h.kind)
