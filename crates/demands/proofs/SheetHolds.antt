-- The sheet holds.
use Rattle.std.specs.Prelude.{ℕ, ◌≡◌, ◌↔◌, Bool, true, false, ◌&&◌, ◌||◌, List, [], ◌∷◌, eqb, ltb}
use Rattle.std.proofs.Math.Path.{refl}
use Rattle.std.proofs.Common.{sym, ◌∙◌, subst, eq-eqb}
use Rattle.matrix.specs.declared.Name.{Name}
use Rattle.matrix.specs.declared.Name.TheVariants.{Subject}
use Rattle.matrix.specs.declared.Form.TheVariants.{Plain, Starred}
use Rattle.matrix.specs.declared.Right.TheVariants.{Own}
use Rattle.matrix.specs.Names.{column_of}
use Rattle.matrix.specs.State.{State, exists, exists_name, put}
use Rattle.matrix.specs.Commands.{Raw, known, rule_of, fields_fit, decode}
use Rattle.matrix.specs.Tests.{Test, test, first_failed, command_tests}
use Rattle.matrix.specs.Changes.{change}
use Rattle.matrix.specs.Step.{refusal_of, refusal, links, walk_links, next}
use Rattle.laws.specs.Tests.{and_left, and_right, and_both}
use Rattle.laws.specs.Changed.{has_put_other}
use Rattle.laws.specs.Passed.{Passed, all_passed, tests_passed, taken}
use Rattle.codec.specs.Columns.{put_set}
use Rattle.kept.proofs.Keeps.{transfer_lasts}
use Rattle.frame.specs.Untouched.{refused_same}
use Rattle.demands.specs.Row.{AllHold, raw, Row}
use Rattle.demands.specs.Sheet.{Sheet}

-- of a transfer or a grant no bit is asked; of a delete its own is
no_bit : (true ≡ true) ↔ AllHold []
no_bit = (λ e. tt, λ h. refl)

its_bit : (set : Bool) → (set ≡ true) ↔ AllHold (set ∷ [])
its_bit set = (λ e. (e, tt), λ h. h.0)

module _ (basics : ℕ) (names : Bool) (S : State) where
  -- whether a command's fields fit its code
  abbrev fit : Raw → Bool
  fit c = fields_fit basics (rule_of c.code c.k) c.s (column_of c.o) c.k

  -- a command that passes every test is accepted
  accept : (c : Raw) → known c.code ≡ true → names ≡ true → fit c ≡ true → Passed (command_tests S (decode c)) → refusal basics names S c ≡ 0
  unfolding refusal refusal_of
  accept c code bounds fields passed =
      let number = refusal_of S (decode c) in
      all_passed (test 6 (known c.code) ∷ test 7 (names && fit c) ∷ test number (eqb number 0) ∷ [])
      (code, (and_both bounds fields, (eq-eqb number 0 (all_passed (command_tests S (decode c)) passed), tt)))

  -- a row, from both directions of its conditions
  row : (c : Raw) (conditions : List Bool) → known c.code ≡ true
      → (names ≡ true → fit c ≡ true → Passed (command_tests S (decode c)) → AllHold conditions)
      → (AllHold conditions → (names ≡ true) × (fit c ≡ true) × Passed (command_tests S (decode c)))
      → Row basics names S c conditions (change S (decode c) (decode c).act) (walk_links S (decode c) (decode c).act)
  unfolding next links
  row c conditions code to from =
      record {
        accepted = (
          λ e. let t = taken basics names S c e in to t.bounds t.fields (tests_passed S (decode c) t.decoded),
          λ h. let p = from h in accept c code p.0 p.1 p.2,
        );
        leaves = λ e. rw e refl;
        answers = λ e. rw e refl;
      }

  module _ (i s : ℕ) (o : Name) (k : ℕ) where
    abbrev there : Bool
    there = exists S s && exists_name S o

    -- the conditions of a command over a basic right, where `entitled` is what i needs, and `more` what is asked besides
    abbrev over_right : Bool → List Bool → List Bool
    over_right entitled more = names ∷ ltb k basics ∷ exists S i ∷ exists S s ∷ exists_name S o ∷ entitled ∷ more

    -- the tests of such a command that can fail: those of the initiator, of s and o, of what i needs, and of the bit that is deleted
    abbrev right_tests : Bool → Bool → List Test
    right_tests entitled set =
        test 8 (exists S i) ∷ test 9 true ∷ test 10 there ∷ test 11 true ∷ test 12 entitled ∷ test 19 set ∷ test 13 true ∷ test 14 true ∷ []

    over_right_lem : (code : ℕ) (entitled set : Bool) (more : List Bool) → known code ≡ true → fit (raw code i s o k) ≡ ltb k basics
        → command_tests S (decode (raw code i s o k)) ≡ right_tests entitled set → (set ≡ true) ↔ AllHold more
        → Row basics names S (raw code i s o k) (over_right entitled more) (change S (decode (raw code i s o k)) (rule_of code k).act) (walk_links S (decode (raw code i s o k)) (rule_of code k).act)
    over_right_lem code entitled set more is_known fits tests asked =
        row (raw code i s o k) (over_right entitled more) is_known
        (λ n f p. let q : Passed (right_tests entitled set) = subst Passed tests p in
        (n, (sym fits ∙ f, (q.0, (and_left (exists S s) (exists_name S o) q.1.1.0, (and_right (exists S s) (exists_name S o) q.1.1.0, (q.1.1.1.1.0, asked.0 q.1.1.1.1.1.0)))))))
        (λ h. let q : Passed (right_tests entitled set) =
        (h.1.1.0, (refl, (and_both h.1.1.1.0 h.1.1.1.1.0, (refl, (h.1.1.1.1.1.0, (asked.1 h.1.1.1.1.1.1, (refl, (refl, tt)))))))) in
        (h.0, fits ∙ h.1.0, subst Passed (sym tests) q))

    -- own handed to whom it belongs: the bit is cleared and set again
    own_again : S.owns i o ≡ true → put Own i o true (put Own i o false S) ≡ S
    own_again own = put_set Own i o S (put Own i o false S) refl (λ z w x e. has_put_other Own i o false S z w x e) own

    -- fields that are not used: s and k, or o and k
    unused : (eqb s 0 && true && eqb k 0) ≡ true → (eqb s 0 ≡ true) × (eqb k 0 ≡ true)
    unused f = (and_left (eqb s 0) true (and_left (eqb s 0 && true) (eqb k 0) f), and_right (eqb s 0 && true) (eqb k 0) f)

    unused_o : (eqb (column_of o) 0 && eqb k 0) ≡ true → (eqb (column_of o) 0 ≡ true) × (eqb k 0 ≡ true)
    unused_o f = (and_left (eqb (column_of o) 0) (eqb k 0) f, and_right (eqb (column_of o) 0) (eqb k 0) f)

    -- s and o are there
    here : (exists S s && exists_name S o) ≡ true → (exists S s ≡ true) × (exists_name S o ≡ true)
    here h = (and_left (exists S s) (exists_name S o) h, and_right (exists S s) (exists_name S o) h)

    unknown : (code : ℕ) → known code ≡ false → refusal basics names S (raw code i s o k) ≡ 6
    unfolding refusal first_failed
    unknown code h = rw h refl

  -- own transferred to its owner changes nothing
  to_itself : (i : ℕ) (o : Name) (k : ℕ) → refusal basics names S (raw 3 i i o k) ≡ 0 → next basics names S (raw 3 i i o k) ≡ S
  unfolding next
  to_itself i o k e =
      let c = raw 3 i i o k in
      let owns = (tests_passed S (decode c) (taken basics names S c e).decoded).1.1.1.1.0 in
      rw e (own_again i i o k owns)

  -- the sheet, row by row: each condition from the tests that are passed, and each test from the conditions
  module _ (i s : ℕ) (o : Name) (k : ℕ) where
    pub sheet : Sheet basics names S i s o k
    sheet =
        record {
          transfer_plain = over_right_lem i s o k 1 (S.basic k Starred i o) true [] refl refl refl no_bit;
          transfer_starred = over_right_lem i s o k 2 (S.basic k Starred i o) true [] refl refl refl no_bit;
          transfer_own =
              row (raw 3 i s o k) _ refl
              (λ n f p. let h = here i s o k p.1.1.0 in (n, (f, (p.0, (h.0, (h.1, (p.1.1.1.1.0, (p.1.1.1.1.1.1.0, tt))))))))
              (λ h. (h.0, h.1.0, (h.1.1.0, (refl, (and_both h.1.1.1.0 h.1.1.1.1.0, (refl, (h.1.1.1.1.1.0, (refl, (h.1.1.1.1.1.1.0, (refl, tt))))))))));
          transfer_to_itself = to_itself i o k;
          transfer_lasts = transfer_lasts basics names S (raw 3 i s o k) refl;
          grant_plain = over_right_lem i s o k 4 (S.owns i o) true [] refl refl refl no_bit;
          grant_starred = over_right_lem i s o k 5 (S.owns i o) true [] refl refl refl no_bit;
          grant_control =
              row (raw 6 i s o k) _ refl
              (λ n f p. let h = here i s o k p.1.1.0 in (n, (f, (p.0, (p.1.0, (h.0, (h.1, (p.1.1.1.1.0, (p.1.1.1.1.1.1.1.0, tt)))))))))
              (λ h. (h.0, h.1.0, (h.1.1.0, (h.1.1.1.0, (and_both h.1.1.1.1.0 h.1.1.1.1.1.0, (refl, (h.1.1.1.1.1.1.0, (refl, (refl, (h.1.1.1.1.1.1.1.0, tt))))))))));
          grant_own =
              row (raw 7 i s o k) _ refl
              (λ n f p. let h = here i s o k p.1.1.0 in (n, (f, (p.0, (p.1.0, (h.0, (h.1, (p.1.1.1.1.0, tt))))))))
              (λ h. (h.0, h.1.0, (h.1.1.0, (h.1.1.1.0, (and_both h.1.1.1.1.0 h.1.1.1.1.1.0, (refl, (h.1.1.1.1.1.1.0, (refl, (refl, (refl, tt))))))))));
          delete_plain = over_right_lem i s o k 8 (S.owns i o || S.controls i (Subject s)) (S.basic k Plain s o) (S.basic k Plain s o ∷ []) refl refl refl (its_bit (S.basic k Plain s o));
          delete_starred = over_right_lem i s o k 9 (S.owns i o || S.controls i (Subject s)) (S.basic k Starred s o) (S.basic k Starred s o ∷ []) refl refl refl (its_bit (S.basic k Starred s o));
          create_object =
              row (raw 10 i s o k) _ refl
              (λ n f p. let u = unused i s o k f in (n, (u.0, (u.1, (p.0, (p.1.0, (p.1.1.1.0, tt)))))))
              (λ h. (h.0, and_both (and_both h.1.0 refl) h.1.1.0, (h.1.1.1.0, (h.1.1.1.1.0, (refl, (h.1.1.1.1.1.0, (refl, (refl, (refl, (refl, tt))))))))));
          destroy_object =
              row (raw 11 i s o k) _ refl
              (λ n f p. let u = unused i s o k f in (n, (u.0, (u.1, (p.0, (p.1.0, (p.1.1.0, (p.1.1.1.1.0, tt))))))))
              (λ h. (h.0, and_both (and_both h.1.0 refl) h.1.1.0, (h.1.1.1.0, (h.1.1.1.1.0, (h.1.1.1.1.1.0, (refl, (h.1.1.1.1.1.1.0, (refl, (refl, (refl, tt))))))))));
          create_subject =
              row (raw 12 i s o k) _ refl
              (λ n f p. let u = unused_o i s o k f in (n, (u.0, (u.1, (p.0, (p.1.1.1.0, tt))))))
              (λ h. (h.0, and_both h.1.0 h.1.1.0, (h.1.1.1.0, (refl, (refl, (h.1.1.1.1.0, (refl, (refl, (refl, (refl, tt))))))))));
          destroy_subject =
              row (raw 13 i s o k) _ refl
              (λ n f p. let u = unused_o i s o k f in (n, (u.0, (u.1, (p.0, (p.1.1.0, (p.1.1.1.1.0, tt)))))))
              (λ h. (h.0, and_both h.1.0 h.1.1.0, (h.1.1.1.0, (refl, (h.1.1.1.1.0, (refl, (h.1.1.1.1.1.0, (refl, (refl, (refl, tt))))))))));
          others = unknown i s o k;
          refused = λ code h. refused_same basics names S (raw code i s o k) h;
        }
