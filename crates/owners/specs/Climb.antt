-- Following owners upward, link by link.
use Prim.Native.Nat.{ℕ, zero, suc, ◌+◌, ◌<◌}
use Rattle.std.proofs.Common.{add-zero, add-suc}
use Rattle.std.specs.Prelude.{◌≡◌, cond, ltb}
use Rattle.std.proofs.Math.Path.{refl}
use borrow.Author.Tests.{lt-ltb, ltb-true}
use Rattle.matrix.specs.State.{State}
use Rattle.matrix.specs.Record.{climb}
use Rattle.laws.specs.Tests.{fails}
use Rattle.owners.specs.Framed.{owner_in}

-- the subject that is come to by following `links` owners upward from s in a state
abbrev pub climb_in : State → ℕ → ℕ → ℕ
climb_in S links s = climb S.top S.owns links s

-- one link, where there is an owner and where there is none
pub climb_owned : (S : State) (j s : ℕ) → owner_in S s < S.top → climb_in S (suc j) s ≡ climb_in S j (owner_in S s)
unfolding climb
climb_owned S j s h = rw (lt-ltb (owner_in S s) S.top h) refl

pub climb_stays : (S : State) (j s : ℕ) → (owner_in S s < S.top → ⊥) → climb_in S (suc j) s ≡ climb_in S j s
unfolding climb
climb_stays S j s h = rw (fails (ltb (owner_in S s) S.top) (λ e. h (ltb-true (owner_in S s) S.top e))) refl

-- i links and then j more are j + i links
pub climb_add : (S : State) (i j s : ℕ) → climb_in S (j + i) s ≡ climb_in S j (climb_in S i s)
unfolding climb
climb_add S zero j s = rw add-zero refl
climb_add S (suc i) j s = rw add-suc (climb_add S i j (cond (ltb (owner_in S s) S.top) (owner_in S s) s))
