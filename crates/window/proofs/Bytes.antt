-- Laws of the changes to a window's bytes: the counts after an entry has left, the bytes of the entries and their next place.
use Rattle.std.specs.Prelude.{ℕ, ◌+◌, ◌-◌, ◌%◌, ◌≤◌, ◌<◌, ◌≡◌, true, false, cond, List, eqb, ltb, get_or, set}
use Rattle.std.proofs.Common.{arith, sym, ◌∙◌, ap, subst, ⊎_elim, eqb-true, ne_eqb, eq-eqb, ltb-true, ltb-false, le-ltb, lt-ltb}
use Rattle.std.proofs.Math.Path.{refl}
use Rattle.std.proofs.Math.ListN.{length, length-set}
use Rattle.std.proofs.Math.Seq.{get_or-set_same, get_or-set_other}
use Rattle.std.proofs.lemmas.Bool.{eqb-false}
use Rattle.matrix.specs.Bytes.{number_at, set_number}
use Rattle.laws.specs.Tests.{way}
use Rattle.codec.specs.Numbers.{number_at_agree, length_set_number}
use Rattle.history.specs.Entries.{Entry, refused, window_numbers, window_entries}
use Rattle.history.specs.Window.{count_place, next_place, window_bytes, entry_byte}
use Rattle.window.specs.Changed.{initiator_of, refused_bit, lowered, placed, entered}
use Rattle.window.specs.Late.{hits}
use Rattle.window.specs.Bytes.{OtherByte, length_raised, set_byte, set_other, set_same}

-- ---- an entry leaves
module _ (w : List ℕ) (b : ℕ) where
  -- the count that is stored
  abbrev lower : ℕ
  lower = (number_at w (count_place (initiator_of b)) 2 + 65536 - refused_bit b) % 65536

  pub lowered_beyond : window_numbers < b → lowered w b ≡ w
  unfolding lowered
  lowered_beyond l = rw (lt-ltb window_numbers b l) refl

  pub lowered_within : b ≤ window_numbers → lowered w b ≡ set_number w (count_place (initiator_of b)) 2 lower
  unfolding lowered
  lowered_within l = rw (le-ltb window_numbers b l) refl

  -- what holds of the bytes, and of those with that count stored, holds of them once the entry has left
  lowered_by : (P : List ℕ → Type 0) → P w → (b ≤ window_numbers → P (set_number w (count_place (initiator_of b)) 2 lower)) → P (lowered w b)
  lowered_by P same stored =
      ⊎_elim (λ u. subst P (sym (lowered_beyond (ltb-true window_numbers b u))) same)
      (λ u. let l : b ≤ window_numbers = ltb-false window_numbers b u in subst P (sym (lowered_within l)) (stored l)) (way (ltb window_numbers b))

  pub length_lowered : length (lowered w b) ≡ length w
  length_lowered = lowered_by (λ v. length v ≡ length w) refl (λ l. length_set_number w (count_place (initiator_of b)) 2 _)

  module _ (size : length w ≡ window_bytes) where
    pub lowered_byte : (j : ℕ) → OtherByte j → get_or (lowered w b) j 0 ≡ get_or w j 0
    lowered_byte j h = lowered_by (λ v. get_or v j 0 ≡ get_or w j 0) refl (λ l. set_byte w size (initiator_of b) _ (omega arith) j h)

    lowered_same : b ≤ window_numbers → number_at (lowered w b) (count_place (initiator_of b)) 2 ≡ lower
    lowered_same l =
        ap (λ (v : List ℕ). number_at v (count_place (initiator_of b)) 2) (lowered_within l) ∙ set_same w size (initiator_of b) _ (omega arith) (omega arith)

    lowered_other : (number : ℕ) → (number ≡ initiator_of b → ⊥) → number_at (lowered w b) (count_place number) 2 ≡ number_at w (count_place number) 2
    lowered_other number h =
        lowered_by (λ v. number_at v (count_place number) 2 ≡ number_at w (count_place number) 2) refl
        (λ l. set_other w size (initiator_of b) _ (omega arith) number h)

    -- a count from which r is taken, where r is what the entry gave to it
    lowered_number : (number r : ℕ) → b ≤ window_numbers → (number ≡ initiator_of b → r ≡ refused_bit b) → ((number ≡ initiator_of b → ⊥) → r ≡ 0)
        → r ≤ number_at w (count_place number) 2 → number_at w (count_place number) 2 ≤ window_entries
        → number_at (lowered w b) (count_place number) 2 ≡ number_at w (count_place number) 2 - r
    lowered_number number r l one none some few = ⊎_elim same other (way (eqb number (initiator_of b)))
      where
        same : eqb number (initiator_of b) ≡ true → number_at (lowered w b) (count_place number) 2 ≡ number_at w (count_place number) 2 - r
        same t =
            let e : number ≡ initiator_of b = eqb-true number (initiator_of b) t in
            let o : r ≡ refused_bit b = one e in
            let v : number_at w (count_place (initiator_of b)) 2 ≡ number_at w (count_place number) 2 = ap (λ (m : ℕ). number_at w (count_place m) 2) (sym e) in
            ap (λ (m : ℕ). number_at (lowered w b) (count_place m) 2) e ∙ lowered_same l ∙ (omega arith)

        other : eqb number (initiator_of b) ≡ false → number_at (lowered w b) (count_place number) 2 ≡ number_at w (count_place number) 2 - r
        other t =
            let n : number ≡ initiator_of b → ⊥ = eqb-false number (initiator_of b) t in
            let z : r ≡ 0 = none n in
            lowered_other number n ∙ (omega arith)

module _ (w : List ℕ) (size : length w ≡ window_bytes) (x : Entry) (number : ℕ) (named : number < window_numbers)
    (some : hits number x ≤ number_at w (count_place number) 2) (few : number_at w (count_place number) 2 ≤ window_entries) where
  -- an entry's byte takes from each count what the entry gave to it
  pub lowered_count : number_at (lowered w (entry_byte x)) (count_place number) 2 ≡ number_at w (count_place number) 2 - hits number x
  lowered_count = ⊎_elim of_refused of_accepted (way (refused x))
    where
      of_refused : refused x ≡ true → number_at (lowered w (entry_byte x)) (count_place number) 2 ≡ number_at w (count_place number) 2 - hits number x
      of_refused t = rw t (⊎_elim within beyond (way (ltb x.initiator window_numbers)))
        where
          given : cond (eqb x.initiator number) 1 0 ≤ number_at w (count_place number) 2
          given = rw t at some

          within : ltb x.initiator window_numbers ≡ true
              → number_at (lowered w (x.initiator + 1)) (count_place number) 2 ≡ number_at w (count_place number) 2 - cond (eqb x.initiator number) 1 0
          within u =
              let l : x.initiator < window_numbers = ltb-true x.initiator window_numbers u in
              lowered_number w (x.initiator + 1) size number (cond (eqb x.initiator number) 1 0) (omega arith)
              (λ e. rw (eq-eqb x.initiator number (omega arith)) (omega arith)) (λ n. rw (ne_eqb x.initiator number (λ e. n (omega arith))) refl) given few

          beyond : ltb x.initiator window_numbers ≡ false
              → number_at (lowered w (x.initiator + 1)) (count_place number) 2 ≡ number_at w (count_place number) 2 - cond (eqb x.initiator number) 1 0
          beyond u =
              let l : window_numbers ≤ x.initiator = ltb-false x.initiator window_numbers u in
              rw (ne_eqb x.initiator number (λ e. omega arith))
              (ap (λ (v : List ℕ). number_at v (count_place number) 2) (lowered_beyond w (x.initiator + 1) (omega arith)) ∙ (omega arith))

      of_accepted : refused x ≡ false → number_at (lowered w (entry_byte x)) (count_place number) 2 ≡ number_at w (count_place number) 2 - hits number x
      of_accepted t =
          let s : 0 ≤ number_at w (count_place number) 2 = omega arith in
          rw t (lowered_number w 0 size number 0 (omega arith) (λ e. refl) (λ n. refl) s few)

-- ---- an entry's byte is written, and the next place moves on
pub length_placed : (w : List ℕ) (place byte : ℕ) → length (placed w place byte) ≡ length w
unfolding placed
length_placed w place byte = length-set (set w place byte) next_place _ ∙ length-set w place byte

module _ (w : List ℕ) (size : length w ≡ window_bytes) (place byte : ℕ) (within : place < window_entries) where
  pub placed_next : get_or (placed w place byte) next_place 0 ≡ (place + 1) % window_entries
  unfolding placed
  placed_next = get_or-set_same (set w place byte) next_place _ 0 (let e : length (set w place byte) ≡ length w = length-set w place byte in omega arith)

  pub placed_here : get_or (placed w place byte) place 0 ≡ byte
  unfolding placed
  placed_here = get_or-set_other (set w place byte) next_place place _ 0 (λ e. omega arith) ∙ get_or-set_same w place byte 0 (omega arith)

  pub placed_other : (j : ℕ) → (j ≡ place → ⊥) → (j ≡ next_place → ⊥) → get_or (placed w place byte) j 0 ≡ get_or w j 0
  unfolding placed
  placed_other j h n = get_or-set_other (set w place byte) next_place j _ 0 n ∙ get_or-set_other w place j byte 0 h

  pub placed_count : (number : ℕ) → number < window_numbers → number_at (placed w place byte) (count_place number) 2 ≡ number_at w (count_place number) 2
  placed_count number named =
      number_at_agree (placed w place byte) w (count_place number) (count_place number) 2
      (λ j l. placed_other (count_place number + j) (λ e. omega arith) (λ e. omega arith))

-- ---- all three changes
pub length_entered : (w : List ℕ) (number refused : ℕ) → length (entered w number refused) ≡ length w
unfolding entered
length_entered w number refused = length_raised _ number refused ∙ length_placed _ (get_or w next_place 0) _ ∙ length_lowered w _
