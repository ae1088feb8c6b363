-- The list of the first commands of a list of the right form is of the right form and has just those commands.
use Rattle.std.specs.Prelude.{ℕ, zero, suc, ◌+◌, ◌*◌, ◌/◌, ◌%◌, ◌≤◌, ◌<◌, ◌≡◌, refl, Bool, true, ◌&&◌, List, ◌∷◌, length, get_or, take}
use Rattle.std.proofs.Common.{arith, sym, ◌∙◌, ap}
use Rattle.std.proofs.Math.Dec.{eqb, leb}
use Rattle.std.proofs.Math.Seq.{get_or-take, length-take-le}
use borrow.Author.Tests.{eqb-true}
use Rattle.matrix.specs.declared.Fields.{Fields}
use Rattle.matrix.specs.Bounded.{all}
use Rattle.matrix.specs.Bytes.{number_at, set_number}
use Rattle.matrix.specs.CommandList.{list_head, record_bytes, most_list_bytes, length_byte, command_place, commands_in, well_formed, fields_at, commands_from, commands_of}
use Rattle.laws.specs.Tests.{and_left, and_right}
use Rattle.laws.specs.Bounded.{all_each}
use Rattle.codec.specs.Numbers.{number_at_agree, length_set_number, get_or_set_number_other, number_at_set_same}
use Rattle.lists.specs.Formed.{formed, is_formed}
use Rattle.writing.specs.Commands.{commands_agree}
use Rattle.demands.specs.InTurn.{first_commands}

-- the first m of the commands that are read one after another
first_read : (l : List ℕ) (j m n : ℕ) → m ≤ n → take m (commands_from l j n) ≡ commands_from l j m
unfolding commands_from
first_read l j zero n h = refl
first_read l j (suc m) zero h = absurd (omega arith)
first_read l j (suc m) (suc n) h = ap (λ (cs : List Fields). fields_at l (command_place j) ∷ cs) (first_read l (suc j) m n (omega arith))

-- the version and the length bytes of a list of the right form
version_right : (a b c d e f : Bool) → (a && b && c && d && e && f) ≡ true → b ≡ true
version_right a b c d e f h =
    and_right a b (and_left (a && b) c (and_left (a && b && c) d (and_left (a && b && c && d) e (and_left (a && b && c && d && e) f h))))

module _ (l : List ℕ) (right : well_formed l ≡ true) where
  version : get_or l 0 0 ≡ 1
  unfolding well_formed
  version = eqb-true (get_or l 0 0) 1 (version_right (leb list_head (length l)) (eqb (get_or l 0 0) 1) (eqb (list_head + number_at l 1 4) (length l)) (leb (number_at l 1 4) most_list_bytes) (eqb (number_at l 1 4 % record_bytes) 0) (all (commands_in l) (λ j. eqb (get_or l (command_place j) 0) length_byte)) right)

  lengths : (j : ℕ) → j < commands_in l → get_or l (command_place j) 0 ≡ length_byte
  unfolding well_formed
  lengths j h =
      let front = leb list_head (length l) && eqb (get_or l 0 0) 1 && eqb (list_head + number_at l 1 4) (length l) && leb (number_at l 1 4) most_list_bytes && eqb (number_at l 1 4 % record_bytes) 0 in
      let each = and_right front (all (commands_in l) (λ j. eqb (get_or l (command_place j) 0) length_byte)) right in
      eqb-true (get_or l (command_place j) 0) length_byte (all_each (commands_in l) (λ j. eqb (get_or l (command_place j) 0) length_byte) each j h)

  module _ (m : ℕ) (few : m ≤ commands_in l) where
    abbrev cut : List ℕ
    cut = first_commands m l

    -- the bytes of the first m commands are there
    inside : command_place m ≤ length l
    inside =
        let f = formed l right in
        let n : ℕ = number_at l 1 4 in
        let size : list_head + n ≡ length l = f.size in
        let whole : n % record_bytes ≡ 0 = f.whole in
        let most : m ≤ n / record_bytes = few in
        omega arith

    small : record_bytes * m ≤ most_list_bytes
    small =
        let f = formed l right in
        let n : ℕ = number_at l 1 4 in
        let most : m ≤ n / record_bytes = few in
        let bounded : n ≤ most_list_bytes = f.bounded in
        omega arith

    changed : List ℕ
    changed = set_number l 1 4 (record_bytes * m)

    same_size : length changed ≡ length l
    unfolding changed
    same_size = length_set_number l 1 4 (record_bytes * m)

    cut_at : (i : ℕ) → i < command_place m → get_or cut i 0 ≡ get_or changed i 0
    unfolding changed
    cut_at i h = get_or-take (command_place m) changed i 0 h

    other_at : (i : ℕ) → i < command_place m → (1 ≤ i → i < list_head → ⊥) → get_or cut i 0 ≡ get_or l i 0
    unfolding changed
    other_at i h apart = cut_at i h ∙ get_or_set_number_other l 1 4 (record_bytes * m) i apart

    size : length cut ≡ command_place m
    unfolding changed
    size = length-take-le (command_place m) changed (let e = same_size in let i = inside in omega arith)

    count : number_at cut 1 4 ≡ record_bytes * m
    unfolding changed
    count =
        number_at_agree cut changed 1 1 4 (λ j h. cut_at (1 + j) (omega arith))
        ∙ number_at_set_same l 1 4 (record_bytes * m) (let i = inside in omega arith) (let s = small in omega arith)

    each_length : (j : ℕ) → j < m → get_or cut (command_place j) 0 ≡ length_byte
    each_length j h = other_at (command_place j) (omega arith) (λ a b. omega arith) ∙ lengths j (omega arith)

    number_of : record_bytes * m / record_bytes ≡ m
    number_of = omega arith

    pub cut_formed : well_formed (first_commands m l) ≡ true
    cut_formed =
        is_formed cut (record { long = (let e = size in omega arith); size = (let e = size in let n = count in omega arith); bounded = (let n = count in let s = small in omega arith); whole = (let n = count in omega arith) })
        (other_at 0 (omega arith) (λ a b. omega arith) ∙ version) (λ j h. each_length j (let n = count in omega arith))

    pub cut_commands : commands_of (first_commands m l) ≡ take m (commands_of l)
    cut_commands =
        ap (λ (n : ℕ). commands_from cut 0 (n / record_bytes)) count ∙ ap (commands_from cut 0) number_of
        ∙ commands_agree cut l 0 m (λ i a b. other_at i (omega arith) (λ p q. omega arith))
        ∙ sym (first_read l 0 m (commands_in l) few)
