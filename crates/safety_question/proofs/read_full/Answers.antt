-- The bytes that a read gave stand after those that were there, and no more than these are gone from what was left to read.
use Rattle.std.proofs.Common.{◌≡◌, ℕ, ◌+◌, ◌-◌, ◌≤◌, List, ◌++◌, rules, length, take, drop, sym, ap, ◌∙◌, subst, le_refl, drop_at, length-take-le}
use Rattle.std.proofs.lemmas.Slice.{take-put_mid_below}
use Rattle.std.specs.Io.KnownBytes.{Consumes}
use Rattle.std.proofs.KnownBytes.{Consumes-trans}
use borrow.Rule.Slice.PartMut.{put_mid, post_of}
use Rattle.std.proofs.Math.Seq.{take-add, take-append-le}
use Rattle.safety_question.proofs.read_full.Goals as goal

-- what a write to the part from a on leaves in the first a + n bytes
take_put_mid : (a k n : ℕ) (xs ys : List ℕ) → a ≤ length xs → n ≤ length ys → take (a + n) (put_mid a k xs ys) ≡ take a xs ++ take n ys
take_put_mid a k n xs ys within fits =
    take-add a n (put_mid a k xs ys)
    ∙ ap (λ l. l ++ take n (drop a (put_mid a k xs ys))) (take-put_mid_below _ _ _ _ _ (le_refl _) within)
    ∙ ap (λ l. take a xs ++ take n l) (drop_at (take a xs) (ys ++ post_of a k xs) a (length-take-le a xs within))
    ∙ ap (λ l. take a xs ++ l) (take-append-le n ys (post_of a k xs) fits)

pub loop-size-preserved : goal.loop-size-preserved
loop-size-preserved g c =
    let filled = take_put_mid c.loop-size.size (length c.loop-size.buffer - c.loop-size.size) c.in_ok-count.count c.loop-size.buffer c.read.new.buf c.loop-size.invariant.within c.in_ok-count.ensures.bound.0 in
    record {
      within = search rules;
      same_length = search rules;
      bytes = subst (Consumes _ _) (sym filled) (Consumes-trans _ _ _ _ _ c.loop-size.invariant.bytes c.in_ok-count.ensures.bytes.0);
    }
