-- A set A of names that untrusted subjects cannot reach: no command of an untrusted subject changes that, nor gives s the right x over
-- the name o of A.
use Rattle.std.specs.Prelude.{ℕ, ◌≡◌, refl, ◌⊎◌, Bool, true, false, List, [], ◌∷◌}
use Rattle.std.proofs.Common.{⊎_elim}
use Rattle.matrix.specs.declared.Name.{Name}
use Rattle.matrix.specs.declared.Name.TheVariants.{Subject}
use Rattle.matrix.specs.declared.Form.TheVariants.{Plain, Starred}
use Rattle.matrix.specs.declared.Right.{Right}
use Rattle.matrix.specs.declared.Right.TheVariants.{Own, Control, Basic}
use Rattle.matrix.specs.declared.Act.{Act}
use Rattle.matrix.specs.declared.Act.TheVariants.{DestroySubject}
use Rattle.matrix.specs.declared.Command.{Command}
use Rattle.matrix.specs.Rights.{held_by}
use Rattle.matrix.specs.State.{State, has, has_one, held, exists_name}
use Rattle.matrix.specs.Commands.{Raw, decode}
use Rattle.matrix.specs.Changes.{change}
use Rattle.matrix.specs.Step.{next}
use Rattle.matrix.specs.Valid.{Valid}
use Rattle.laws.specs.Tests.{clash, fails, or_cases, or_left, or_right}
use Rattle.kept.specs.Allowed.{Allowed}
use Rattle.safe.specs.Runs.{Each, each_map, next_by}
use Rattle.safe.specs.Conditions.{has_star}
use Rattle.safe.specs.Gained.{Source, by_owner, by_star, by_creation, by_heir, gained}
use Rattle.safe.specs.Lasts.{lasts}

-- What holds of the names of A, and of s, o and x, after every command. `Spared` names subjects that no command at hand destroys;
-- in the safety question there are none.
pub record Guarded (A : Name → Type 0) (Spared : ℕ → Type 0) (trusted : ℕ → Bool) (s : ℕ) (o : Name) (x : Right) (S : State) : Type 0 where
  -- each name of A exists; whoever owns one is trusted, and is in A itself or spared
  pub there : (a : Name) → A a → exists_name S a ≡ true
  pub owners : (a : Name) → A a → (w : ℕ) → S.owns w a ≡ true → (trusted w ≡ true) × (A (Subject w) ⊎ Spared w)
  -- no untrusted subject has the star of x over o
  pub starless : (v : ℕ) → trusted v ≡ false → has_star S x v o ≡ false
  pub unheld : held S x s o ≡ false

-- a command destroys no subject of `Spared`
abbrev pub Spares : (ℕ → Type 0) → Command → Act → Type 0
Spares Spared c a = a ≡ DestroySubject → Spared c.s → ⊥

-- one of some rights is held only where it was before, if that is so of each of their bits
held_before : (S S' : State) (ys : List Right) (w : ℕ) (o : Name) → Each (λ y. has S' y w o ≡ true → has S y w o ≡ true) ys
    → has_one S' ys w o ≡ true → has_one S ys w o ≡ true
held_before S S' [] w o each h = h
held_before S S' (y ∷ ys) w o each h =
    ⊎_elim (λ e. or_left (has_one S ys w o) (each.0 e)) (λ e. or_right (has S y w o) (held_before S S' ys w o each.1 e))
    (or_cases (has S' y w o) (has_one S' ys w o) h)

-- the rights by which x is held have no other star than x; own has none
held_star : (S : State) (x : Right) (w : ℕ) (o : Name) → has_star S x w o ≡ false → Each (λ y. has_star S y w o ≡ false) (held_by x)
held_star S Own w o h = (h, tt)
held_star S Control w o h = (h, tt)
held_star S (Basic k Plain) w o h = (h, (h, (refl, tt)))
held_star S (Basic k Starred) w o h = (h, (refl, tt))

-- every bit over o of a right whose star i has not was set before
abbrev Before : State → State → Name → ℕ → Type 0
Before S S' o i = (z : Right) → has_star S z i o ≡ false → (w : ℕ) → has S' z w o ≡ true → has S z w o ≡ true

-- so was then the star of such a right
star_before : (S S' : State) (o : Name) (i : ℕ) → Before S S' o i → (x : Right) → has_star S x i o ≡ false → (v : ℕ) → has_star S' x v o ≡ true
    → has_star S x v o ≡ true
star_before S S' o i before Own none v h = h
star_before S S' o i before Control none v h = h
star_before S S' o i before (Basic k f) none v h = before (Basic k Starred) none v h

module _ (A : Name → Type 0) (Spared : ℕ → Type 0) (trusted : ℕ → Bool) (s : ℕ) (o : Name) (x : Right) where
  -- an untrusted subject owns no name of A
  powerless : {S : State} → Guarded A Spared trusted s o x S → (i : ℕ) → trusted i ≡ false → (a : Name) → A a → S.owns i a ≡ true → ⊥
  powerless g i begun a r own = clash (g.owners a r i own).0 begun

  -- Over a name of A a command of an untrusted subject sets no bit but of a right whose star the subject has.
  fewer : (S : State) (c : Command) (a : Act) → Guarded A Spared trusted s o x S → trusted c.i ≡ false → Spares Spared c a → Allowed S c a
      → (n : Name) → A n → (z : Right) → has_star S z c.i n ≡ false → (w : ℕ) → has (change S c a) z w n ≡ true → has S z w n ≡ true
  fewer S c a g begun spares p n r z unstarred w h = ⊎_elim (λ b. b) (λ q. absurd (refuted q)) (gained S c a p z w n h)
    where
      refuted : Source S c a z n → ⊥
      refuted (by_owner own) = powerless g c.i begun n r own
      refuted (by_star star) = clash star unstarred
      refuted (by_creation absent) = clash (g.there n r) absent
      refuted (by_heir destroys own held) =
          ⊎_elim (λ m. powerless g c.i begun (Subject c.s) m own) (λ m. spares destroys m) (g.owners n r c.s held).1

  -- So the change of an allowed command keeps all of it.
  guarded_change : (S : State) (c : Command) (a : Act) → Valid S → A o → trusted c.i ≡ false → Spares Spared c a → Allowed S c a
      → Guarded A Spared trusted s o x S → Guarded A Spared trusted s o x (change S c a)
  guarded_change S c a v r begun spares p g =
      record {
        there = λ n m. ⊎_elim (λ e. e) (λ own. absurd (powerless g c.i begun n m own)) (lasts S c a v p n (g.there n m));
        owners = λ n m w h. g.owners n m w (fewer S c a g begun spares p n m Own refl w h);
        starless = λ w u. fails (has_star (change S c a) x w o)
            (λ h. clash (star_before S (change S c a) o c.i before x (g.starless c.i begun) w h) (g.starless w u));
        unheld = fails (held (change S c a) x s o) (λ h. clash (held_before S (change S c a) (held_by x) s o
            (each_map (held_by x) (λ y none. before y none s) (held_star S x c.i o (g.starless c.i begun))) h) g.unheld);
      }
    where
      before : Before S (change S c a) o c.i
      before z none w h = fewer S c a g begun spares p o r z none w h

  pub guarded_next : (basics : ℕ) (names : Bool) (S : State) (c : Raw) → Valid S → A o → trusted c.i ≡ false
      → Spares Spared (decode c) (decode c).act → Guarded A Spared trusted s o x S → Guarded A Spared trusted s o x (next basics names S c)
  guarded_next basics names S c v r begun spares g =
      next_by (Guarded A Spared trusted s o x) basics names S c g
      (λ p. guarded_change S (decode c) (decode c).act v r begun spares p g)
