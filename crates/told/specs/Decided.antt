-- What is told is so: the answer to a question that is not turned down is the definition's.
use Rattle.std.specs.Prelude.{ℕ, ◌+◌, ◌≤◌, ◌<◌, ◌≡◌, refl, true, List, length}
use Rattle.std.proofs.Common.{arith, sym, ◌∙◌, ap, subst, inl, inr}
use Rattle.matrix.specs.declared.Name.{Name}
use Rattle.matrix.specs.declared.Right.{Right}
use Rattle.matrix.specs.declared.Fields.{Fields}
use Rattle.matrix.specs.Names.{name_of, named}
use Rattle.matrix.specs.Rights.{right_of}
use Rattle.matrix.specs.State.{State}
use Rattle.matrix.specs.Shape.{limits, shape_of, most_subjects, basics_of}
use Rattle.matrix.specs.Reading.{state_of}
use Rattle.matrix.specs.Record.{record_refusal}
use Rattle.codec.specs.RoundTrip.{within_read}
use Rattle.owners.specs.Read.{record_shaped}
use Rattle.owners.proofs.Read.{valid_record}
use Rattle.question.specs.Safety.{Safety}
use Rattle.question.specs.Safety.{Leaks}
use Rattle.question.specs.Trust.{trusted_by}
use Rattle.question.specs.Leaks.{LeaksBy}
use Rattle.question.specs.Asked.{list_room, LeaksRecord, Written, Decided}
use Rattle.route.specs.Parts.{basic_number}
use Rattle.ways.specs.Ways.{Way, held_now, by_star, by_creation, from_above, no_way, way_of, list_of}
use Rattle.decision.specs.Decides.{Says, decides}
use Rattle.writing.specs.Put.{put_list, most_commands}
use Rattle.writing.proofs.Laws.{list_size, list_later, list_formed, list_commands}
use Rattle.told.specs.Told.{buffer_of, Told}

-- a question of names and a right of the record, with room for its list
pub record Askable (b : List ℕ) (s o right : ℕ) (out : List ℕ) : Type 0 where
  pub valid : record_refusal limits b ≡ 0
  pub subject : s < (shape_of b).n
  pub object : named (shape_of b).n (shape_of b).p (name_of (shape_of b).n o) ≡ true
  pub basic : basic_number (right_of right) < basics_of (shape_of b)
  pub room : list_room ((shape_of b).n + 2) ≤ length out

module _ (b : List ℕ) (mask s o right : ℕ) (out : List ℕ) (q : Askable b s o right out) where
  abbrev S : State
  S = state_of b

  abbrev x : Name
  x = name_of (shape_of b).n o

  abbrev y : Right
  y = right_of right

  -- the way of the question, and what it says
  abbrev pub way_at : Way
  way_at = way_of S (trusted_by mask) s x y

  pub says : Says (shape_of b) S (trusted_by mask) s x y way_at
  says = decides (shape_of b) S (trusted_by mask) s x y (valid_record b q.valid) (within_read b) q.subject q.object q.basic

  -- the list of a way that leaks fits the buffer
  fits_room : (cs : List Fields) → length cs ≤ (shape_of b).n + 2 → list_room (length cs) ≤ length out
  fits_room cs h = let r : list_room ((shape_of b).n + 2) ≤ length out = q.room in omega arith

  fits_most : (cs : List Fields) → length cs ≤ (shape_of b).n + 2 → length cs ≤ most_commands
  fits_most cs h = let n : (shape_of b).n ≤ most_subjects = (record_shaped b q.valid).high in omega arith

  leak_written : {out' : List ℕ} (cs : List Fields) → LeaksBy (shape_of b) S (trusted_by mask) s x y cs → out' ≡ put_list out cs → Written b mask s o right out out' (length cs)
  leak_written {out'} cs w e =
      let f = fits_most cs w.few in
      let r = fits_room cs w.few in
      subst (λ (z : List ℕ). Written b mask s o right out z (length cs)) (sym e)
      (record {
        formed = list_formed out cs f r;
        number = ap length (list_commands out cs f r);
        leaks = subst (λ (ds : List Fields). LeaksRecord b mask s o right ds) (sym (list_commands out cs f r)) w;
        later = list_later out cs;
      })

  leak_told : {out' : List ℕ} {r : Safety} (cs : List Fields) → LeaksBy (shape_of b) S (trusted_by mask) s x y cs → r ≡ Leaks (length cs) → out' ≡ put_list out cs → Decided b mask s o right out out' r
  leak_told cs w e f = inr (length cs, e, leak_written cs w f)

  told_so : (w : Way) {out' : List ℕ} {r : Safety} → Says (shape_of b) S (trusted_by mask) s x y w → Told S s x y w out out' r → Decided b mask s o right out out' r
  told_so held_now w t = leak_told _ w t.reply t.buffer
  told_so (by_star i) w t = leak_told _ w t.reply t.buffer
  told_so (by_creation v) w t = leak_told _ w t.reply t.buffer
  told_so (from_above v ws) w t = leak_told _ w t.reply t.buffer
  told_so no_way w t = inl (t.reply, t.buffer, w)

  pub told_decided : {out' : List ℕ} {r : Safety} → Told S s x y way_at out out' r → Decided b mask s o right out out' r
  told_decided t = told_so way_at says t

  buffer_size : (w : Way) (cs : List Fields) → length (buffer_of w out cs) ≡ length out
  buffer_size held_now cs = list_size out cs
  buffer_size (by_star i) cs = list_size out cs
  buffer_size (by_creation v) cs = list_size out cs
  buffer_size (from_above v ws) cs = list_size out cs
  buffer_size no_way cs = refl

  pub told_size : {out' : List ℕ} {r : Safety} → Told S s x y way_at out out' r → length out' ≡ length out
  told_size t = ap length t.buffer ∙ buffer_size way_at (list_of S s x y way_at)
