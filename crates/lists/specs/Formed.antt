-- What a list of the right form has.
use Rattle.std.specs.Prelude.{ℕ, zero, suc, ◌+◌, ◌%◌, ◌≤◌, ◌<◌, ◌≡◌, refl, Bool, true, ◌&&◌, List, eqb, leb, length, get_or}
use Rattle.std.proofs.Common.{ap, leb-true, eqb-true}
use borrow.Author.Tests.{eq-eqb, le-leb}
use Rattle.matrix.specs.Bytes.{number_at}
use Rattle.matrix.specs.CommandList.{list_head, record_bytes, most_list_bytes, length_byte, command_place, well_formed, commands_in, commands_from}
use Rattle.laws.specs.Tests.{and_left, and_right}
use Rattle.laws.specs.Bounded.{each_all}

pub record Formed (l : List ℕ) : Type 0 where
  pub long : list_head ≤ length l
  pub size : list_head + number_at l 1 4 ≡ length l
  pub bounded : number_at l 1 4 ≤ most_list_bytes
  pub whole : number_at l 1 4 % record_bytes ≡ 0

parts : (a b c d e f : Bool) → (a && b && c && d && e && f) ≡ true → (a ≡ true) × (c ≡ true) × (d ≡ true) × (e ≡ true)
parts a b c d e f h =
    let h5 = and_left (a && b && c && d && e) f h in
    let h4 = and_left (a && b && c && d) e h5 in
    let h3 = and_left (a && b && c) d h4 in
    let h2 = and_left (a && b) c h3 in
    (and_left a b h2, and_right (a && b) c h3, and_right (a && b && c) d h4, and_right (a && b && c && d) e h5)

pub formed : (l : List ℕ) → well_formed l ≡ true → Formed l
unfolding well_formed
formed l h =
    let w = parts (leb list_head (length l)) (eqb (get_or l 0 0) 1) (eqb (list_head + number_at l 1 4) (length l)) (leb (number_at l 1 4) most_list_bytes) (eqb (number_at l 1 4 % record_bytes) 0) _ h in
    record { long = leb-true list_head (length l) w.0; size = eqb-true (list_head + number_at l 1 4) (length l) w.1; bounded = leb-true (number_at l 1 4) most_list_bytes w.2; whole = eqb-true (number_at l 1 4 % record_bytes) 0 w.3 }

-- and what makes it one
pub is_formed : (l : List ℕ) → Formed l → get_or l 0 0 ≡ 1 → ((j : ℕ) → j < commands_in l → get_or l (command_place j) 0 ≡ length_byte) → well_formed l ≡ true
unfolding well_formed
is_formed l f version lengths =
    rw (le-leb list_head (length l) f.long, eq-eqb (get_or l 0 0) 1 version, eq-eqb (list_head + number_at l 1 4) (length l) f.size, le-leb (number_at l 1 4) most_list_bytes f.bounded, eq-eqb (number_at l 1 4 % record_bytes) 0 f.whole)
    (each_all (commands_in l) (λ j. eqb (get_or l (command_place j) 0) length_byte) (λ j h. eq-eqb (get_or l (command_place j) 0) length_byte (lengths j h)))

-- the number of commands that are read
pub length_commands : (l : List ℕ) (j m : ℕ) → length (commands_from l j m) ≡ m
unfolding commands_from
length_commands l j zero = refl
length_commands l j (suc m) = ap suc (length_commands l (suc j) m)
