-- A bit that a command doesn't name is after it as it was before (Manual 5.5).
use Rattle.std.specs.Prelude.{ℕ, ◌≡◌, refl, ◌≢◌, Bool, true, false, ◌&&◌, eqb}
use Rattle.std.proofs.Common.{◌∙◌, ne_eqb}
use Rattle.std.proofs.Math.Bool.{or-false}
use Rattle.matrix.specs.declared.Name.{Name}
use Rattle.matrix.specs.declared.Name.TheVariants.{Subject}
use Rattle.matrix.specs.declared.Right.{Right}
use Rattle.matrix.specs.declared.Right.TheVariants.{Own, Control, Basic}
use Rattle.matrix.specs.declared.Act.{Act}
use Rattle.matrix.specs.declared.Act.TheVariants.{Transfer, Grant, Delete, CreateObject, DestroyObject, CreateSubject, DestroySubject}
use Rattle.matrix.specs.declared.Command.{Command}
use Rattle.matrix.specs.State.{State, has, put}
use Rattle.matrix.specs.Commands.{Raw}
use Rattle.matrix.specs.Changes.{change, admit, inherit, in_column, in_cross}
use Rattle.matrix.specs.Touched.{touched, same_right, is_bit}
use Rattle.matrix.specs.Step.{refusal, next}
use Rattle.laws.specs.Tests.{or_none_left, or_none_right}
use Rattle.laws.specs.Changed.{has_put_other, has_clear, has_inherit, has_admit}

-- a bit that is neither of two in a column is as it was after both were set or cleared
pub has_put_two : (y y' : Right) (r r' : ℕ) (c : Name) (v v' : Bool) (S : State) (z : Right) (w : ℕ) (x : Name) → is_bit y r c z w x ≡ false → is_bit y' r' c z w x ≡ false → has (put y r c v (put y' r' c v' S)) z w x ≡ has S z w x
has_put_two y y' r r' c v v' S z w x h h' = has_put_other y r c v (put y' r' c v' S) z w x h ∙ has_put_other y' r' c v' S z w x h'

-- for what each command does
pub untouched_by : (S : State) (c : Command) (a : Act) (z : Right) (w : ℕ) (x : Name) → touched S c a z w x ≡ false → has (change S c a) z w x ≡ has S z w x
untouched_by S c (Transfer Own) z w x h =
    let s_named = is_bit Own c.s c.o z w x in
    let i_named = is_bit Own c.i c.o z w x in
    has_put_two Own Own c.s c.i c.o true false S z w x (or_none_left s_named i_named h) (or_none_right s_named i_named h)
untouched_by S c (Transfer Control) z w x h = refl
untouched_by S c (Transfer (Basic k f)) z w x h = has_put_other (Basic k f) c.s c.o true S z w x h
untouched_by S c (Grant y) z w x h = has_put_other y c.s c.o true S z w x h
untouched_by S c (Delete y) z w x h = has_put_other y c.s c.o false S z w x h
untouched_by S c CreateObject z w x h = has_put_other Own c.i c.o true S z w x h
untouched_by S c DestroyObject z w x h = rw (has_clear (in_column c.o) S z w x, h) refl
untouched_by S c CreateSubject z w x h =
    let owner_named = is_bit Own c.i (Subject c.s) z w x in
    let self_named = is_bit Control c.s (Subject c.s) z w x in
    let owner_stays = or_none_left owner_named self_named h in
    let self_stays = or_none_right owner_named self_named h in
    has_put_two Control Own c.s c.i (Subject c.s) true true (admit c.s S) z w x self_stays owner_stays ∙ has_admit c.s S z w x
untouched_by S c DestroySubject z w x h =
    let gone = in_cross c.s w x in
    let gained = same_right z Own && eqb w c.i && S.owns c.s x in
    let stays : gone ≡ false = or_none_left gone gained h in
    let nothing : gained ≡ false = or_none_right gone gained h in
    rw (has_clear (in_cross c.s) (inherit c.i c.s S) z w x, stays, has_inherit c.i c.s S z w x, nothing) (or-false (has S z w x))

-- a refused command changes nothing
pub refused_same : (basics : ℕ) (names : Bool) (S : State) (c : Raw) → refusal basics names S c ≢ 0 → next basics names S c ≡ S
unfolding next
refused_same basics names S c h = rw (ne_eqb (refusal basics names S c) 0 h) refl
