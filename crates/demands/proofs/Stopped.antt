-- Commands in turn that stopped: those before were accepted and left what is left, and the next one earned the refusal.
use Rattle.std.specs.Prelude.{ℕ, zero, suc, ◌+◌, ◌<◌, ◌≡◌, refl, ◌≢◌, Bool, true, cond, List, [], ◌∷◌, eqb, length, get_or, take}
use Rattle.std.proofs.Common.{add-zero, arith, sym, ◌∙◌, ap, ⊎_elim}
use Rattle.matrix.specs.declared.Fields.{Fields}
use Rattle.matrix.specs.Shape.{limits}
use Rattle.matrix.specs.CommandList.{command_place, fields_at, commands_from}
use Rattle.matrix.specs.Calls.{command_bytes}
use Rattle.laws.specs.Tests.{way}
use Rattle.demands.specs.InTurn.{Ended, ended, refusal_number, in_turn}

-- `done` commands of cs were accepted, and the next one was refused
pub record Stopped (j : ℕ) (b : List ℕ) (cs : List Fields) (e : Ended) : Type 0 where
  pub done : ℕ
  pub within : done < length cs
  pub accepted : e.outcome.accepted ≡ j + done
  pub before : in_turn j b (take done cs) ≡ ended (j + done) 0 e.bytes
  pub refused : (d : Fields) → refusal_number e.bytes (get_or cs done d) ≡ e.outcome.refusal

-- the first command is refused
at_once : (j : ℕ) (b : List ℕ) (c : Fields) (cs : List Fields) → Stopped j b (c ∷ cs) (ended j (refusal_number b c) b)
unfolding in_turn
at_once j b c cs =
    record { done = 0; within = omega arith; accepted = sym (add-zero j); before = ap (λ (m : ℕ). ended m 0 b) (sym (add-zero j)); refused = λ d. refl }

-- it is accepted, and a later one is refused
later : (j : ℕ) (b : List ℕ) (c : Fields) (cs : List Fields) (e : Ended) → eqb (refusal_number b c) 0 ≡ true → Stopped (j + 1) (command_bytes limits b c) cs e → Stopped j b (c ∷ cs) e
unfolding in_turn
later j b c cs e t s =
    record {
      done = suc s.done;
      within = let w = s.within in omega arith;
      accepted = s.accepted ∙ omega arith;
      before =
          ap (λ (t : Bool). cond t (in_turn (j + 1) (command_bytes limits b c) (take s.done cs)) (ended j (refusal_number b c) b)) t
          ∙ s.before ∙ ap (λ (m : ℕ). ended m 0 e.bytes) (omega arith);
      refused = s.refused;
    }

pub stopped : (j : ℕ) (b : List ℕ) (cs : List Fields) → (in_turn j b cs).outcome.refusal ≢ 0 → Stopped j b cs (in_turn j b cs)
unfolding in_turn
stopped j b [] h = absurd (h refl)
stopped j b (c ∷ cs) h =
    ⊎_elim (λ t. let g : (in_turn (j + 1) (command_bytes limits b c) cs).outcome.refusal ≢ 0 = rw t at h in rw t (later j b c cs (in_turn (j + 1) (command_bytes limits b c) cs) t (stopped (j + 1) (command_bytes limits b c) cs g)))
    (λ t. rw t (at_once j b c cs)) (way (eqb (refusal_number b c) 0))

-- the command of a list at a place
pub command_at : (l : List ℕ) (j n m : ℕ) (d : Fields) → m < n → get_or (commands_from l j n) m d ≡ fields_at l (command_place (j + m))
unfolding commands_from
command_at l j zero m d h = absurd (omega arith)
command_at l j (suc n) zero d h = ap (λ (i : ℕ). fields_at l (command_place i)) (sym (add-zero j))
command_at l j (suc n) (suc m) d h = command_at l (suc j) n m d (omega arith) ∙ ap (λ (i : ℕ). fields_at l (command_place i)) (omega arith)
