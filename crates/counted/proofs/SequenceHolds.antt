-- What is asked of the window holds.
use Rattle.std.specs.Prelude.{ℕ, ◌≡◌, refl, true, false, cond, List, [], ◌∷◌, ◌++◌, eqb, ltb}
use Rattle.std.proofs.Common.{arith, sym, ◌∙◌, ap, ap₂, subst, ⊎_elim, append_assoc, append-nil, eqb-true, ltb-true, ltb-false}
use Rattle.std.proofs.lemmas.Bool.{eqb-false}
use Rattle.matrix.specs.declared.Numbers.{Numbers}
use Rattle.matrix.specs.Numbers.{numbers}
use Rattle.matrix.specs.Tests.{test, first_failed}
use Rattle.laws.specs.Tests.{way}
use Rattle.history.specs.Entries.{Entry, window_numbers, window_refusal, taken}
use Rattle.history.specs.Window.{Shows}
use Rattle.history.specs.Calls.{Put, Counted}
use Rattle.demands.specs.First.{Numbered}
use Rattle.demands.specs.FirstLaws.{numbered, numbered_among}
use Rattle.counted.specs.Sequence.{window_conditions, Refuses, Puts, count_answer, Sequence}

-- ---- refusal 17

refusal_numbered : (number : ℕ) → Numbered (window_conditions number) (window_refusal number)
unfolding first_failed
refusal_numbered number =
    numbered (test 17 (ltb number window_numbers) ∷ []) (window_conditions number) (
      record {
        number = refl;
        some = λ z. let q : ◌≡◌ {A = ℕ} 17 0 = z in omega arith;
        failed = ltb-false number window_numbers;
        passed = λ t l. let b = ltb-true number window_numbers t in omega arith;
      },
      λ t. tt,
    )

refuses : {number : ℕ} {r : Numbers} → r.refusal ≡ window_refusal number → Refuses number r
refuses {number} e =
    let n = subst (Numbered (window_conditions number)) (sym e) (refusal_numbered number) in
    record { number = n; only = numbered_among (window_conditions number) n }

-- ---- entries in turn

-- the history after an entry that is taken, and after one that is not
one_shows : {w w' : List ℕ} {r : Numbers} (h : List Entry) (e : Entry) (es : List Entry) → Put w e.initiator e.outcome w' r → Shows h w
    → (l : List Entry) × (l ++ taken es ≡ h ++ taken (e ∷ es)) × Shows l w'
unfolding taken
one_shows {w} {w'} h e es p s = ⊎_elim in_history left_out (way (eqb (window_refusal e.initiator) 0))
  where
    in_history : eqb (window_refusal e.initiator) 0 ≡ true
        → (l : List Entry) × (l ++ taken es ≡ h ++ cond (eqb (window_refusal e.initiator) 0) (e ∷ taken es) (taken es)) × Shows l w'
    in_history t = (h ++ (e ∷ []), rw t (append_assoc h (e ∷ []) (taken es)), p.shows (eqb-true _ 0 t) h s)

    left_out : eqb (window_refusal e.initiator) 0 ≡ false
        → (l : List Entry) × (l ++ taken es ≡ h ++ cond (eqb (window_refusal e.initiator) 0) (e ∷ taken es) (taken es)) × Shows l w'
    left_out t = (h, rw t refl, subst (Shows h) (sym (p.refused (eqb-false _ 0 t))) s)

all_shows : {w w' : List ℕ} (h es : List Entry) → Shows h w → Puts w es w' → Shows (h ++ taken es) w'
unfolding taken
all_shows {w} {w'} h [] s e = subst (λ (l : List Entry). Shows l w') (sym (append-nil h)) (subst (Shows h) (sym e) s)
all_shows {w} {w'} h (e ∷ es) s (v, r, p, q) =
    let one = one_shows h e es p s in
    subst (λ (l : List Entry). Shows l w') one.1 (all_shows one.0 es one.2 q)

-- ---- a count that is read

count_is : {w : List ℕ} {number : ℕ} {r : Numbers} (es : List Entry) → Shows (taken es) w → Counted w number r → r ≡ count_answer es number
count_is {w} {number} {r} es s c = ⊎_elim shown refused (way (ltb number window_numbers))
  where
    shown : ltb number window_numbers ≡ true → r ≡ count_answer es number
    shown t =
        let z : window_refusal number ≡ 0 = rw t refl in
        rw t (ap₂ numbers (c.refusal ∙ z) (c.shown z (taken es) s))

    refused : ltb number window_numbers ≡ false → r ≡ count_answer es number
    refused t =
        let z : window_refusal number ≡ 17 = rw t refl in
        rw t (ap₂ numbers (c.refusal ∙ z) (c.refused (λ q. let n : ◌≡◌ {A = ℕ} 17 0 = sym z ∙ q in omega arith)))

pub window_sequence : Sequence
window_sequence =
    record {
      put = λ p. (refuses (ap (λ (n : Numbers). n.refusal) p.answer), λ some. p.refused (λ z. some (ap (λ (n : Numbers). n.refusal) p.answer ∙ z)));
      count = λ c. refuses c.refusal;
      counts = λ es size e p c. count_is es (all_shows [] es (e.shows size) p) c;
    }
