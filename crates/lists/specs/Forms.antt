-- The form of a list of commands, test by test.
use Rattle.std.specs.Prelude.{ℕ, zero, suc, ◌+◌, ◌-◌, ◌*◌, ◌/◌, ◌%◌, ◌^◌, ◌≤◌, ◌<◌, ◌≡◌, refl, Bool, true, false, ◌&&◌, List, ◌++◌, eqb, leb, length, get_or, drop}
use Rattle.std.proofs.Common.{add-zero, zero-add, arith, sym, ◌∙◌, ap, ⊎_elim, get_or-drop, length-drop, length-append, eqb-true, leb-true}
use Rattle.std.proofs.Math.ListN.{get_or-append}
use Rattle.std.proofs.lemmas.List.{get_or-append-add}
use borrow.Author.Tests.{eq-eqb, ne_eqb, le-leb, lt-leb}
use Rattle.matrix.specs.declared.Fields.{Fields}
use Rattle.matrix.specs.Bounded.{all}
use Rattle.matrix.specs.Bytes.{number_at}
use Rattle.matrix.specs.CommandList.{list_head, record_bytes, most_list_bytes, length_byte, command_place, well_formed, fields_at}
use Rattle.matrix.specs.Shaped.{Octets}
use Rattle.laws.specs.Tests.{way, same_test, and_left}
use Rattle.laws.specs.Bounded.{all_each, each_all, all_fails, all_same}

-- four bytes make a number
pub four_bytes : (l : List ℕ) (at : ℕ) → number_at l at 4 ≡ ((get_or l at 0 * 256 + get_or l (at + 1) 0) * 256 + get_or l (at + 2) 0) * 256 + get_or l (at + 3) 0
unfolding number_at
four_bytes l at = rw add-zero (simp zero-add)

-- the command numbered j of these bytes begins with the right length byte, and each of them does
abbrev pub length_right : List ℕ → ℕ → Bool
length_right commands j = eqb (get_or commands (record_bytes * j) 0) length_byte

unfoldable pub lengths_right : List ℕ → Bool
lengths_right commands = all (length commands / record_bytes) (length_right commands)

-- what is tested of the bytes after a right head that says `count`
unfoldable pub commands_right : List ℕ → ℕ → Bool
commands_right commands count = eqb (length commands) count && leb count most_list_bytes && eqb (count % record_bytes) 0 && lengths_right commands

-- ---- the form, by the head and the bytes after it
abbrev pub head_right : List ℕ → Bool
head_right l = leb list_head (length l) && eqb (get_or l 0 0) 1

module _ (l : List ℕ) where
  pub head_long : {t : Bool} → list_head ≤ length l → t ≡ eqb (get_or l 0 0) 1 → t ≡ head_right l
  head_long h e = rw (le-leb list_head (length l) h) e

  pub head_short : {t : Bool} → length l < list_head → t ≡ leb list_head (length l) → t ≡ head_right l
  head_short h e = rw (lt-leb list_head (length l) h) (e ∙ lt-leb list_head (length l) h)

  pub wrong_head : {t : Bool} → t ≡ head_right l → t ≡ false → t ≡ well_formed l
  unfolding well_formed
  wrong_head e f = rw (sym e ∙ f) f

  same_count : list_head ≤ length l → eqb (length (drop list_head l)) (number_at l 1 4) ≡ eqb (list_head + number_at l 1 4) (length l)
  same_count h =
      let d : length (drop list_head l) ≡ length l - list_head = length-drop list_head l in
      same_test (eqb (length (drop list_head l)) (number_at l 1 4)) (eqb (list_head + number_at l 1 4) (length l))
      (λ e. let q = eqb-true (length (drop list_head l)) (number_at l 1 4) e in eq-eqb (list_head + number_at l 1 4) (length l) (omega arith))
      (λ e. let q = eqb-true (list_head + number_at l 1 4) (length l) e in eq-eqb (length (drop list_head l)) (number_at l 1 4) (omega arith))

  same_lengths : list_head + number_at l 1 4 ≡ length l → lengths_right (drop list_head l) ≡ all (number_at l 1 4 / record_bytes) (λ j. eqb (get_or l (command_place j) 0) length_byte)
  unfolding lengths_right
  same_lengths h =
      let d : length (drop list_head l) ≡ length l - list_head = length-drop list_head l in
      let q : length (drop list_head l) / record_bytes ≡ number_at l 1 4 / record_bytes = omega arith in
      ap (λ (m : ℕ). all m (length_right (drop list_head l))) q
      ∙ all_same (number_at l 1 4 / record_bytes) (length_right (drop list_head l)) (λ j. eqb (get_or l (command_place j) 0) length_byte)
      (λ j b. ap (λ (x : ℕ). eqb x length_byte) (get_or-drop list_head l (record_bytes * j) 0))

  pub right_head : {t : Bool} → head_right l ≡ true → t ≡ commands_right (drop list_head l) (number_at l 1 4) → t ≡ well_formed l
  unfolding well_formed commands_right
  right_head h e =
      e ∙ ⊎_elim (λ (c : eqb (list_head + number_at l 1 4) (length l) ≡ true).
      let f = same_lengths (eqb-true (list_head + number_at l 1 4) (length l) c) in rw (same_count long, h, c, f) refl)
      (λ (c : eqb (list_head + number_at l 1 4) (length l) ≡ false). rw (same_count long, h, c) refl)
      (way (eqb (list_head + number_at l 1 4) (length l)))
    where
      long : list_head ≤ length l
      long = leb-true list_head (length l) (and_left (leb list_head (length l)) (eqb (get_or l 0 0) 1) h)

-- ---- the commands, one after another
pub lengths_none : (commands : List ℕ) → length commands < record_bytes → lengths_right commands ≡ true
unfolding lengths_right
lengths_none commands h = each_all (length commands / record_bytes) (length_right commands) (λ j b. absurd (omega arith))

module _ (command others : List ℕ) (whole : length command ≡ record_bytes) where
  number : length (command ++ others) / record_bytes ≡ suc (length others / record_bytes)
  number = let e : length (command ++ others) ≡ length command + length others = length-append command others in omega arith

  first : get_or (command ++ others) (record_bytes * 0) 0 ≡ get_or command 0 0
  first = get_or-append command others 0 0 (omega arith)

  later : (j : ℕ) → get_or (command ++ others) (record_bytes * suc j) 0 ≡ get_or others (record_bytes * j) 0
  later j =
      let e : record_bytes * suc j ≡ length command + record_bytes * j = omega arith in
      ap (λ (i : ℕ). get_or (command ++ others) i 0) e ∙ get_or-append-add command others (record_bytes * j) 0

  pub lengths_more : get_or command 0 0 ≡ length_byte → lengths_right (command ++ others) ≡ lengths_right others
  unfolding lengths_right
  lengths_more right =
      same_test (all (length (command ++ others) / record_bytes) (length_right (command ++ others))) (all (length others / record_bytes) (length_right others))
      (λ h. each_all (length others / record_bytes) (length_right others) (λ j b.
      ap (λ (x : ℕ). eqb x length_byte) (sym (later j)) ∙ all_each (length (command ++ others) / record_bytes) (length_right (command ++ others)) h (suc j) (omega (arith, number))))
      (λ h. each_all (length (command ++ others) / record_bytes) (length_right (command ++ others)) (each h))
    where
      each : all (length others / record_bytes) (length_right others) ≡ true → (j : ℕ) → j < length (command ++ others) / record_bytes → length_right (command ++ others) j ≡ true
      each h zero b = eq-eqb (get_or (command ++ others) (record_bytes * 0) 0) length_byte (first ∙ right)
      each h (suc j) b =
          ap (λ (x : ℕ). eqb x length_byte) (later j) ∙ all_each (length others / record_bytes) (length_right others) h j (omega (arith, number))

  pub lengths_wrong : (get_or command 0 0 ≡ length_byte → ⊥) → false ≡ lengths_right (command ++ others)
  unfolding lengths_right
  lengths_wrong wrong =
      sym (all_fails (length (command ++ others) / record_bytes) (length_right (command ++ others)) 0 (omega (arith, number))
      (ne_eqb (get_or (command ++ others) (record_bytes * 0) 0) length_byte (λ e. wrong (sym first ∙ e))))

-- ---- a command from the bytes read
pub fields_of : (l : List ℕ) (at : ℕ) {code i s o k : ℕ} → code ≡ get_or l (at + 1) 0 → i ≡ get_or l (at + 2) 0 → s ≡ get_or l (at + 3) 0 → o ≡ get_or l (at + 4) 0 → k ≡ get_or l (at + 5) 0 → ◌≡◌ {A = Fields} (record { code = code; i = i; s = s; o = o; k = k }) (fields_at l at)
fields_of l at e f g h q = λ x. record { code = e x; i = f x; s = g x; o = h x; k = q x }

-- a number of four bytes is small
pub four_below : (l : List ℕ) (at : ℕ) → Octets l → number_at l at 4 < 256 ^ 4
four_below l at h =
    let e : number_at l at 4 ≡ ((get_or l at 0 * 256 + get_or l (at + 1) 0) * 256 + get_or l (at + 2) 0) * 256 + get_or l (at + 3) 0 = four_bytes l at in
    omega (arith, h.octet at, h.octet (at + 1), h.octet (at + 2), h.octet (at + 3))
