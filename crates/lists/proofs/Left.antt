-- The commands that are left of a list at a position, and the one that is read next there.
use Rattle.std.specs.Prelude.{ℕ, zero, suc, ◌+◌, ◌-◌, ◌/◌, ◌≤◌, ◌<◌, ◌≡◌, refl, true, List, [], ◌∷◌, length, Some, None}
use Rattle.std.proofs.Common.{arith, sym, ◌∙◌, ap}
use Rattle.matrix.specs.declared.Fields.{Fields}
use Rattle.matrix.specs.CommandList.{record_bytes, most_list_bytes, command_place, well_formed, fields_at, commands_in, commands_from, commands_of}
use Rattle.lists.specs.Formed.{formed, length_commands}
use Rattle.lists.specs.Left.{dropped, first_of, commands_left, command_at}

-- the commands that are left, by their number
left : (l : List ℕ) (j : ℕ) {m : ℕ} → commands_in l - j ≡ m → commands_left l j ≡ commands_from l j m
unfolding commands_left
left l j e =
    let a : 0 + j ≡ j = omega arith in
    dropped l j 0 (commands_in l) ∙ (λ x. commands_from l (a x) (e x))

module _ (l : List ℕ) (j : ℕ) where
  -- what stands at a position
  pub read_command : {c : Fields} → j < commands_in l → c ≡ fields_at l (command_place j) → Some c ≡ command_at l j
  unfolding command_at commands_from
  read_command h e =
      let n : commands_in l - j ≡ suc (commands_in l - (j + 1)) = omega arith in
      ap (λ (c : Fields). Some c) e ∙ sym (ap first_of (left l j n))

  pub read_end : commands_in l ≤ j → None ≡ command_at l j
  unfolding command_at commands_from
  read_end h =
      let n : commands_in l - j ≡ 0 = omega arith in
      sym (ap first_of (left l j n))

  -- and what that says of the commands that are left
  pub yields_end : None ≡ command_at l j → commands_left l j ≡ []
  unfolding command_at
  yields_end h = each (commands_left l j) refl h
    where
      each : (cs : List Fields) → commands_left l j ≡ cs → None ≡ first_of cs → commands_left l j ≡ []
      each [] e h = e
      each (c ∷ cs) e h = let z : ◌≡◌ {A = ℕ} 0 1 = cc in absurd (omega arith)

  pub yields_command : {c : Fields} → Some c ≡ command_at l j → (j < commands_in l) × (commands_left l j ≡ c ∷ commands_left l (j + 1))
  unfolding command_at commands_from
  yields_command {c} h = each (commands_in l - j) refl (h ∙ ap first_of (left l j refl))
    where
      each : (m : ℕ) → commands_in l - j ≡ m → Some c ≡ first_of (commands_from l j m) → (j < commands_in l) × (commands_left l j ≡ c ∷ commands_left l (j + 1))
      each zero e h = let z : ◌≡◌ {A = ℕ} 0 1 = cc in absurd (omega arith)
      each (suc m) e h =
          let q : fields_at l (command_place j) ≡ c = cc in
          let a : suc j ≡ j + 1 = omega arith in
          let rest : commands_from l (suc j) m ≡ commands_left l (j + 1) = ap (λ (i : ℕ). commands_from l i m) a ∙ sym (left l (j + 1) (omega arith)) in
          (omega arith, left l j e ∙ (λ x. q x ∷ rest x))

-- at the start all are left
pub left_all : (l : List ℕ) → commands_left l 0 ≡ commands_of l
unfolding commands_left
left_all l = refl

-- so a list has few commands
pub few_commands : (l : List ℕ) → well_formed l ≡ true → length (commands_of l) ≤ most_list_bytes / record_bytes
few_commands l h = let f = formed l h in omega (arith, length_commands l 0 (commands_in l), f.bounded)
